-- Tokens that are laid one after another, and what is ahead once some are passed.
use Rattle.std.proofs.Math.Seq.{drop-cons}
use Rattle.std.proofs.Common.{◌≡◌, ℕ, suc, ◌+◌, ◌<◌, ◌≤◌, List, [], ◌∷◌, ◌++◌, map, length, take, drop, get_or, string_bytes, sym, ap, ◌∙◌, append_assoc, append-nil, arith}
use Rattle.std.proofs.lemmas.List.{take_more, take_all, drop_all}
use Rattle.dynamo_value.specs.Av as av
use Rattle.dynamo_value.specs.Av.{Av, elements_of, members_of}
use Rattle.dynamo_value.specs.Entries.{Lent, entry_of, seen_entry, seen_entries}
use Rattle.dynamo_value.specs.View.{view, elements_view, entries_view, members_view}
use Rattle.dynamo_value.specs.declared.attribute_value.AttributeValue.{AttributeValue}
use Rattle.dynamo_value.proofs.Members.{Entry}
use Rattle.dynamo_serde.specs.Laid.{Token, laid, members_laid, elements_laid, key, begin_list, end_seq, begin_map, end_map}
use Rattle.dynamo_serde.specs.Tape.{row, token_of}
use Rattle.dynamo_serde.specs.declared.tape.Token as tape
use Rattle.dynamo_serde.specs.declared.tape.Token.TheVariants as token
use Rattle.dynamo_serde.proofs.Logged.{map_push}

-- what is between two ends
between : (first last : Token) (inside old begun mid new : List Token) → begun ≡ old ++ first ∷ [] → mid ≡ begun ++ inside → new ≡ mid ++ last ∷ []
    → new ≡ old ++ (first ∷ (inside ++ last ∷ []))
between first last inside old begun mid new opened h closes =
    closes ∙ ap (λ ts. ts ++ last ∷ []) (h ∙ ap (λ ts. ts ++ inside) opened ∙ append_assoc old (first ∷ []) inside) ∙ append_assoc old (first ∷ inside) (last ∷ [])

-- ---- the elements of a set

module _ {A : Type 0} (make : List ℕ → Token) (f : A → List ℕ) where
  -- of all, those before i are laid
  abbrev pub LaidUpTo : List A → ℕ → List Token → List Token → Type 0
  LaidUpTo xs i old new = new ≡ old ++ map make (map f (take i xs))

  pub laid_all : (xs ys : List A) (i : ℕ) (first last : Token) (old begun mid new : List Token) → ys ≡ xs → length ys ≤ i
      → begun ≡ old ++ first ∷ [] → LaidUpTo ys i begun mid → new ≡ mid ++ last ∷ [] → new ≡ old ++ (first ∷ (map make (map f xs) ++ last ∷ []))
  laid_all xs ys i first last old begun mid new same end opened h closes =
      between first last (map make (map f xs)) old begun mid new opened (h ∙ ap (λ zs. begun ++ map make (map f zs)) (take_all i ys end ∙ same)) closes

-- ---- the elements of a list

abbrev pub ListUpTo : List AttributeValue → ℕ → List Token → List Token → Type 0
ListUpTo vs i old new = new ≡ old ++ elements_laid (elements_of (map view (take i vs)))

elements_push : (as' : List Av) (a : Av) → elements_laid (elements_of (as' ++ a ∷ [])) ≡ elements_laid (elements_of as') ++ laid a
elements_push [] a = append-nil (laid a)
elements_push (b ∷ as') a = ap (λ ts. laid b ++ ts) (elements_push as' a) ∙ sym (append_assoc (laid b) (elements_laid (elements_of as')) (laid a))

pub list_more : (vs : List AttributeValue) (i : ℕ) (v : AttributeValue) (old mid new : List Token) → i < length vs → v ≡ get_or vs i v
    → ListUpTo vs i old mid → new ≡ mid ++ laid (view v) → ListUpTo vs (i + 1) old new
list_more vs i v old mid new lt is h same =
    let before = map view (take i vs) in
    let taken : take (i + 1) vs ≡ take i vs ++ v ∷ [] = take_more vs i v lt ∙ ap (λ y. take i vs ++ y ∷ []) (sym is) in
    let values : map view (take (i + 1) vs) ≡ before ++ view v ∷ [] = ap (map view) taken ∙ map_push view (take i vs) v in
    same ∙ ap (λ ts. ts ++ laid (view v)) h ∙ append_assoc old (elements_laid (elements_of before)) (laid (view v))
    ∙ ap (λ ts. old ++ ts) (sym (elements_push before (view v)) ∙ ap (λ as'. elements_laid (elements_of as')) (sym values))

pub list_all : (vs xs : List AttributeValue) (i : ℕ) (old begun mid new : List Token) → xs ≡ vs → length xs ≤ i
    → begun ≡ old ++ begin_list ∷ [] → ListUpTo xs i begun mid → new ≡ mid ++ end_seq ∷ [] → new ≡ old ++ laid (av.L (elements_view vs))
list_all vs xs i old begun mid new same end opened h closes =
    between begin_list end_seq (elements_laid (elements_view vs)) old begun mid new opened
    (h ∙ ap (λ ys. begun ++ elements_laid (elements_view ys)) (take_all i xs end ∙ same)) closes

-- ---- the members of a map

members_push : (es : List (List ℕ × Av)) (e : List ℕ × Av) → members_laid (members_of (es ++ e ∷ [])) ≡ members_laid (members_of es) ++ (key e.0 ∷ laid e.1)
members_push [] e = ap (λ ts. key e.0 ∷ ts) (append-nil (laid e.1))
members_push (d ∷ es) e =
    ap (λ ts. key d.0 ∷ (laid d.1 ++ ts)) (members_push es e)
    ∙ ap (λ ts. key d.0 ∷ ts) (sym (append_assoc (laid d.1) (members_laid (members_of es)) (key e.0 ∷ laid e.1)))

-- the row of these entries, in the order in which they come
abbrev pub entries_laid : List Lent → List Token
entries_laid es = members_laid (members_of (seen_entries (map entry_of es)))

entries_push : (es : List Lent) (e : Lent) → entries_laid (es ++ e ∷ []) ≡ entries_laid es ++ (key (string_bytes e.0.now) ∷ laid (view e.1.now))
entries_push es e =
    ap (λ xs. members_laid (members_of (seen_entries xs))) (map_push entry_of es e)
    ∙ ap (λ xs. members_laid (members_of xs)) (map_push seen_entry (map entry_of es) (entry_of e))
    ∙ members_push (seen_entries (map entry_of es)) (seen_entry (entry_of e))

pub map_more : (done : List Lent) (e : Lent) (old mid keyed new : List Token) → mid ≡ old ++ entries_laid done
    → keyed ≡ mid ++ key (string_bytes e.0.now) ∷ [] → new ≡ keyed ++ laid (view e.1.now) → new ≡ old ++ entries_laid (done ++ e ∷ [])
map_more done e old mid keyed new h opened same =
    let k = key (string_bytes e.0.now) in
    let a = laid (view e.1.now) in
    same ∙ ap (λ ts. ts ++ a) (opened ∙ ap (λ ts. ts ++ k ∷ []) h) ∙ append_assoc (old ++ entries_laid done) (k ∷ []) a
    ∙ append_assoc old (entries_laid done) (k ∷ a) ∙ ap (λ ts. old ++ ts) (sym (entries_push done e))

pub map_all : (es : List Entry) (done : List Lent) (old begun mid new : List Token) → seen_entries (map entry_of done) ≡ entries_view es
    → begun ≡ old ++ begin_map ∷ [] → mid ≡ begun ++ entries_laid done → new ≡ mid ++ end_map ∷ [] → new ≡ old ++ laid (av.M (members_view es))
map_all es done old begun mid new seen opened h closes =
    between begin_map end_map (members_laid (members_view es)) old begun mid new opened
    (h ∙ ap (λ xs. begun ++ members_laid (members_of xs)) seen) closes

-- ---- what is ahead

-- past the token at i
pub past : (ts : List tape.Token) (i : ℕ) (t : Token) (rest : List Token) → i < length ts → row (drop i ts) ≡ t ∷ rest → row (drop (i + 1) ts) ≡ rest
past ts i t rest lt e =
    let first = token_of (get_or ts i token.EndSeq) in
    let next : suc i ≡ i + 1 = omega arith in
    let same : t ∷ rest ≡ first ∷ row (drop (i + 1) ts) = sym e ∙ ap row (drop-cons ts i token.EndSeq lt) ∙ ap (λ n. first ∷ row (drop n ts)) next in
    let tail : rest ≡ row (drop (i + 1) ts) = cc (same) in sym tail

-- past the end nothing is ahead
pub none_ahead : (ts : List tape.Token) (i : ℕ) → length ts ≤ i → row (drop i ts) ≡ []
none_ahead ts i end = ap row (drop_all i ts end)

pub some_ahead : (ts : List tape.Token) (i : ℕ) (t : tape.Token) → i < length ts → t ≡ get_or ts i t → row (drop i ts) ≡ token_of t ∷ row (drop (suc i) ts)
some_ahead ts i t lt is = ap row (drop-cons ts i t lt) ∙ ap (λ u. token_of u ∷ row (drop (suc i) ts)) (sym is)

pub passed_more : (old mid new : List Token) (t : Token) (passed : List Token) → old ≡ passed ++ mid → mid ≡ t ∷ new → (more : List Token) × (old ≡ more ++ new)
passed_more old mid new t passed h step = (passed ++ t ∷ [], h ∙ ap (λ ts. passed ++ ts) step ∙ sym (append_assoc passed (t ∷ []) new))

pub passed_all : (old mid new passed : List Token) → old ≡ passed ++ mid → (rest : List Token) × (mid ≡ rest ++ new) → (more : List Token) × (old ≡ more ++ new)
passed_all old mid new passed h step = (passed ++ step.0, h ∙ ap (λ ts. passed ++ ts) step.1 ∙ sym (append_assoc passed step.0 new))
