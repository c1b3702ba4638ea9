-- The pages of a scan: what comes after the last key of a page is what the page left.
use Rattle.std.proofs.Common.{◌≡◌, ◌∙◌, ℕ, ◌<◌, [], ◌∷◌, ◌++◌, take, drop, length, Option, Some}
use Rattle.std.proofs.Common.{None, Bor, Less}
use Rattle.std.proofs.Common.{refl, sym, ap, subst, append_assoc, length-append, length-take, arith}
use Rattle.std.proofs.lemmas.Cmp.{tied_itself}
use Rattle.std.proofs.lemmas.List.{length-map, map-append, take-append-drop}
use Rattle.std.specs.List.{filter, AllByRecursion}
use Rattle.std.specs.List.Sorted.{IsStrictlySortedBy}
use Rattle.std.specs.Map.{keys_of}
use Rattle.std.specs.Ordering.{is_lt}
use Rattle.dynamo_value.specs.declared.item.Item.{Item}
use Rattle.table_keys.specs.KeyLaws.{key_total}
use Rattle.table_keys.specs.KeyOrder.{key_cmp}
use Rattle.table_keys.specs.declared.key.Key.{Key}
use Rattle.table_keys.specs.Queries.{rest, seen}
use Rattle.table_memory.proofs.Pages.{Entries, InOrder, Lent, entry}

-- the entries above a key
abbrev above : Key → Entries → Entries
above key es = filter (λ e. is_lt (key_cmp key e.0)) es

all_key : (P : Key → Type 0) (front : Entries) (e : Key × Item) (back : Entries)
    → AllByRecursion P (keys_of (front ++ e ∷ back)) → P e.0
all_key P [] e back h = h.0
all_key P (x ∷ front) e back h = all_key P front e back h.1

all_above : (key : Key) (es : Entries) → AllByRecursion (λ k. key_cmp key k ≡ Less) (keys_of es)
    → above key es ≡ es
all_above key [] s = refl
all_above key (x ∷ es) s = rw (s.0, all_above key es s.1)

-- what lies above an entry of a sorted list comes after it
cut : (front : Entries) (e : Key × Item) (back : Entries) → InOrder (front ++ e ∷ back)
    → above e.0 (front ++ e ∷ back) ≡ back
unfolding IsStrictlySortedBy
cut [] e back s = rw (tied_itself key_total e.0) (all_above e.0 back s.0)
cut (x ∷ front) e back s =
    rw (key_total.antisymm e.0 x.0, all_key (λ k. key_cmp x.0 k ≡ Less) front e back s.0)
    (cut front e back s.1)

-- a page that is not empty, in front of what it left
pub page_left : (es : Entries) (read page front : Lent) (x : Bor Key × Bor Item)
    (start : Option (Bor Key))
    (n : ℕ) → InOrder es → seen page ≡ take n (rest start es) → page ≡ front ++ x ∷ []
    → seen read ++ rest start es ≡ es
    → ((seen read ++ seen page) ++ rest (Some x.0) es ≡ es)
    × (length (rest (Some x.0) es) < length (rest start es))
page_left es read page front x start n sorted is last all =
    let left = drop n (rest start es) in
    let shown : seen page ≡ seen front ++ entry x ∷ [] =
    ap seen last ∙ map-append entry front (x ∷ []) in
    let parts : rest start es ≡ seen page ++ left =
    rw is (sym (take-append-drop n (rest start es))) in
    let whole : es ≡ (seen read ++ seen front) ++ entry x ∷ left =
    sym all ∙ ap (λ (xs : Entries). seen read ++ xs)
    (parts ∙ ap (λ (xs : Entries). xs ++ left) shown) ∙ simp append_assoc in
    let behind : rest (Some x.0) es ≡ left =
    ap (above x.0.now) whole ∙ cut (seen read ++ seen front) (entry x) left
    (subst InOrder whole sorted) in (
      rw behind (append_assoc (seen read) (seen page) left
          ∙ ap (λ (xs : Entries). seen read ++ xs) (sym parts) ∙ all),
      omega (
        arith,
        ap length behind,
        ap length parts,
        ap length shown,
        length-append (seen page) left,
        length-append (seen front) (entry x ∷ []),
      ),
    )

-- an empty page is the end
pub page_none : (xs : Entries) (n : ℕ) (page : Lent) → 0 < n → seen page ≡ take n xs
    → length page ≡ 0 → xs ≡ []
page_none [] n page h is e = refl
page_none (x ∷ xs) n page h is e =
    absurd (omega (arith, e, ap length is, length-take n (x ∷ xs), length-map page entry))

-- the first page begins with the first entry
pub rest_of_all : (es : Entries) → rest None es ≡ es
rest_of_all [] = refl
rest_of_all (x ∷ es) = ap (λ (xs : Entries). x ∷ xs) (rest_of_all es)
