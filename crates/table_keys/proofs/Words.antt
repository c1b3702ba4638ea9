-- A word is parted at its last colon, so that it is an attribute's only where what follows is the letter of a kind.
use Rattle.std.proofs.Common.{arith, zero, suc, ◌≡◌, ◌≢◌, ◌+◌, ◌<◌, ◌≤◌, ◌++◌, ℕ, List, [], ◌∷◌, Option, Some, None, MatchOption, Bor, refl, sym, ap, ◌∙◌, take, drop, length, get_or, string_bytes, subst}
use Rattle.std.specs.Str.Pattern.{RFindsChar}
use Rattle.std.proofs.Math.Seq.{get_or-append_seam}
use Rattle.std.proofs.lemmas.List.{length-append, take-append-drop}
use Rattle.std.proofs.lemmas.Option.{none-some}
use Rattle.std.proofs.lemmas.Str.Pattern.{NoCharPasses-char, drop_at_char}
use Rattle.table_keys.specs.KeyOf.{word_of, IsNoWord}
use Rattle.table_keys.specs.KeyOrder.{kind_name}
use Rattle.table_keys.specs.declared.key.KeyKind.{KeyKind}
use Rattle.table_keys.specs.declared.schema.KeyAttribute.{KeyAttribute}

-- no byte is c
abbrev Lacks : ℕ → List ℕ → Type 0
Lacks c text = (i : ℕ) → i < length text → get_or text i 0 ≡ c → ⊥

-- the letter of a kind is no colon
one_lacks : (b : ℕ) → (b ≡ 58 → ⊥) → Lacks 58 (b ∷ [])
one_lacks b other zero l e = other e
one_lacks b other (suc i) l e = absurd (omega (arith, l))

kind_lacks : (kind : KeyKind) → Lacks 58 (kind_name kind)
kind_lacks KeyKind.S = one_lacks _ (λ e. omega (arith, e))
kind_lacks KeyKind.N = one_lacks _ (λ e. omega (arith, e))
kind_lacks KeyKind.B = one_lacks _ (λ e. omega (arith, e))

-- a text with a colon in it has one
seam : (front back : List ℕ) → Lacks 58 (front ++ 58 ∷ back) → ⊥
seam front back l = l (length front) (omega (arith, length-append front (58 ∷ back))) (get_or-append_seam front 58 back 0)

abbrev head_of : List ℕ → ℕ
head_of [] = 0
head_of (x ∷ xs) = x

length_zero : (xs : List ℕ) → length xs ≡ 0 → xs ≡ []
length_zero [] e = refl
length_zero (x ∷ xs) e = absurd (omega (arith, e))

abbrev tail_of : List ℕ → List ℕ
tail_of [] = []
tail_of (x ∷ xs) = xs

-- the last colon parts a text in one way
last_colon : (front back front' back' : List ℕ) → Lacks 58 back → Lacks 58 back' → front ++ 58 ∷ back ≡ front' ++ 58 ∷ back' → (front ≡ front') × (back ≡ back')
last_colon [] back [] back' l l' e = (refl, ap tail_of e)
last_colon [] back (x ∷ front') back' l l' e = absurd (seam front' back' (rw (sym (ap tail_of e)) l))
last_colon (x ∷ front) back [] back' l l' e = absurd (seam front back (rw (ap tail_of e) l'))
last_colon (x ∷ front) back (y ∷ front') back' l l' e =
    let rest = last_colon front back front' back' l l' (ap tail_of e) in
    (rw (ap head_of e, rest.0) refl, rest.1)

-- what `rsplit_once` at a colon answers: the word has none, or these come before and after the last
abbrev pub Splits : List ℕ → Option (Bor (List ℕ) × Bor (List ℕ)) → Type 0
Splits word r = MatchOption r (RFindsChar 58 word None) (λ x. (i : ℕ) × (j : ℕ) × RFindsChar 58 word (Some (i, j)) × (x.0.now ≡ take i word) × (x.1.now ≡ drop j word) × (i ≤ j) × (length x.0.now ≡ i) × (length x.1.now + j ≡ length word))

-- a word that is parted so is that of no attribute with another name, or another letter
no_other : (word front back : List ℕ) → word ≡ front ++ 58 ∷ back → Lacks 58 back → (attribute : KeyAttribute) → word ≡ word_of attribute
    → (front ≡ string_bytes attribute.name) × (back ≡ kind_name attribute.kind)
no_other word front back e lacks attribute is =
    last_colon front back (string_bytes attribute.name) (kind_name attribute.kind) lacks (kind_lacks attribute.kind) (sym e ∙ is)

parts : (word : List ℕ) (x : Bor (List ℕ) × Bor (List ℕ)) → Splits word (Some x) → (word ≡ x.0.now ++ 58 ∷ x.1.now) × Lacks 58 x.1.now
parts word x h =
    let i = h.0 in
    let j = h.1 in
    let colon : drop i word ≡ 58 ∷ drop j word = drop_at_char 58 word i j h.2.1 (omega arith) in
    rw (h.3, h.4) (sym (take-append-drop i word) ∙ ap (λ l. take i word ++ l) colon, λ k l e. NoCharPasses-char 58 (drop j word) k h.2.0 (omega arith) l e)

pub no_parts : (word : List ℕ) (r : Option (Bor (List ℕ) × Bor (List ℕ))) → Splits word r → r ≡ None → IsNoWord word
no_parts word None h e attribute named is =
    seam (string_bytes attribute.name) (kind_name attribute.kind) (rw (sym is) (λ i l e. NoCharPasses-char 58 word i h (omega arith) l e))
no_parts word (Some x) h e attribute named is = none-some x (sym e)

pub no_kind : (word : List ℕ) (r : Option (Bor (List ℕ) × Bor (List ℕ))) (x : Bor (List ℕ) × Bor (List ℕ)) → Splits word r → r ≡ Some x → ((kind : KeyKind) → x.1.now ≢ kind_name kind) → IsNoWord word
no_kind word r x h e other attribute named is =
    let split = parts word x (subst (Splits word) e h) in
    other attribute.kind (no_other word x.0.now x.1.now split.0 split.1 attribute is).1

pub no_name : (word : List ℕ) (r : Option (Bor (List ℕ) × Bor (List ℕ))) (x : Bor (List ℕ) × Bor (List ℕ)) → Splits word r → r ≡ Some x → length x.0.now ≡ 0 → IsNoWord word
no_name word r x h e empty attribute named is =
    let split = parts word x (subst (Splits word) e h) in
    named (length_zero (string_bytes attribute.name) (ap length (sym (no_other word x.0.now x.1.now split.0 split.1 attribute is).0) ∙ empty))
