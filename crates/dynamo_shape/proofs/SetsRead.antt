-- What sets read is permitted by reading at their shapes: the members are put in order.
use Rattle.std.proofs.Common.{◌≡◌, ◌↔◌, Bool, true, List, Result, Ok, Err, refl, sym, ap, subst, ◌∙◌, inl, inr}
use Rattle.dynamo_shape.proofs.Common.{list_any, Fault, Datum, Elements, no_elements, element}
use Rattle.dynamo_shape.proofs.Common.{SetKind, symbol, Answer, After, ◌>>=◌, read_elements, Source}
use Rattle.dynamo_shape.proofs.Common.{AllElements, conforms, AnswersByShape, EqualAsTold}
use Rattle.dynamo_shape.proofs.Common.{ReadsByShape, AreAscending, sorted_elements, sorted, read}
use Rattle.dynamo_shape.proofs.Common.{into, read_list, Same, SameElements, Shape}
use Rattle.dynamo_de.specs.Reads.{ReadsSet}
use Rattle.dynamo_ser.specs.Datum as datum
use Rattle.dynamo_de.specs.Answer as answer
use Rattle.dynamo_shape.specs.Shape as shape
use Rattle.dynamo_shape.proofs.Answered.{stops, after}
use Rattle.dynamo_shape.proofs.Lists.{told_each, each_answered}
use Rattle.dynamo_shape.proofs.Ordered.{HasElement, sorts_to, sorted_alike}
use Rattle.dynamo_shape.proofs.SetsTold.{told_is, any_told, told_any, told_list, told_set, in_ordered_list, in_ordered_set}

pub all_in : (P : Datum → Type 0) (ds es : Elements) → ((z : Datum) → HasElement z ds → HasElement z es) → AllElements P es → AllElements P ds
all_in P no_elements es f c = tt
all_in P (element d ds) es f c = (at es (f d (inl refl)) c, all_in P ds es (λ z h. f z (inr h)) c)
  where
    at : (xs : Elements) → HasElement d xs → AllElements P xs → P d
    at no_elements h c = absurd h
    at (element x xs) (inl p) c = subst P (sym p) c.0
    at (element x xs) (inr h) c = at xs h c.1

into_next : {X Y Z : Type 0} (f : Y → Z) (a : Answer X) (next : X → Answer Y) → into f (a >>= next) ≡ a >>= λ x. into f (next x)
into_next f (Ok x) next = refl
into_next f (Err e) next = refl

module _ {T M : Type 0} (s : Shape) (tells : T → Datum) (reads : Source → Result T Fault → Type 0) (h : ReadsByShape s tells reads) (eq : T → T → Bool) (equal : EqualAsTold tells eq) (members : M → List T) (has : M → T → Bool) (is : (m : M) (q : T) → has m q ≡ list_any (eq q) (members m)) where
  abbrev told : M → Elements
  told m = told_each tells (members m)

  equal_from : (v x : T) → ((eq x v ≡ true) ↔ (tells v ≡ tells x))
  equal_from v x = (λ t. sym ((equal x v).0 t), λ e. (equal x v).1 (sym e))

  -- what was read is what the set has
  read_in : (m : M) (vs : List T) → ((q : T) → has m q ≡ list_any (λ v. eq v q) vs) → (z : Datum) → HasElement z (told_each tells vs) → HasElement z (told m)
  read_in m vs has_read z k =
      let (v, p) = told_is tells vs z k in
      let there = told_any tells (tells v) (λ x. eq x v) (equal_from v) vs (subst (λ x. HasElement x (told_each tells vs)) p k) in
      subst (λ x. HasElement x (told m)) (sym p) (any_told tells (tells v) (eq v) (equal v) (members m) (sym (is m v) ∙ has_read v ∙ there))

  has_in : (m : M) (vs : List T) → ((q : T) → has m q ≡ list_any (λ v. eq v q) vs) → (z : Datum) → HasElement z (told m) → HasElement z (told_each tells vs)
  has_in m vs has_read z k =
      let (v, p) = told_is tells (members m) z k in
      let there = told_any tells (tells v) (eq v) (equal v) (members m) (subst (λ x. HasElement x (told m)) p k) in
      subst (λ x. HasElement x (told_each tells vs)) (sym p) (any_told tells (tells v) (λ x. eq x v) (equal_from v) vs (sym (has_read v) ∙ is m v ∙ there))

  members_answered : (ss : List Source) (r : Result M Fault) → ReadsSet has eq reads ss r → AnswersByShape (λ ds. AllElements (conforms s) ds × AreAscending ds) SameElements told (into sorted_elements (read_list (read s) ss)) r
  unfolding ReadsSet
  members_answered ss (Ok m) (vs, each, has_read) =
      let (ds, p, alike) = each_answered s tells reads h ss (Ok vs) each in (
        sorted_elements ds,
        rw p refl,
        λ c.
            let conform = all_in (conforms s) (told_each tells vs) (told m) (read_in m vs has_read) c.0 in
            subst (SameElements (sorted_elements ds)) (sorts_to (told_each tells vs) (told m) c.1 (read_in m vs has_read) (has_in m vs has_read)) (sorted_alike ds (told_each tells vs) (alike conform)),
      )
  members_answered ss (Err f) a = stops SameElements SameElements (read_list (read s) ss) (λ ds. answer.value (sorted_elements ds)) f (each_answered s tells reads h ss (Err f) a)

  -- of a shape that makes this of the elements
  module _ (S : Shape) (make : Elements → Datum) (makes : (ds : Elements) → sorted (make ds) ≡ make (sorted_elements ds)) (inner : (ds : Elements) → conforms S (make ds) → AllElements (conforms s) ds × AreAscending ds) (outer : (ds es : Elements) → SameElements ds es → Same (make ds) (make es)) where
    made_sorted : (a : Answer Elements) (r : Result M Fault) → AnswersByShape (λ ds. AllElements (conforms s) ds × AreAscending ds) SameElements told (into sorted_elements a) r → AnswersByShape (conforms S) Same (λ m. make (told m)) (into sorted (into make a)) r
    made_sorted (Ok ds) (Ok m) (es, p, alike) = (sorted (make ds), refl, λ c. subst (λ x. Same x (make (told m))) (sym (makes ds)) (outer (sorted_elements ds) (told m) (subst (λ xs. SameElements xs (told m)) (sym (same p)) (alike (inner (told m) c)))))
      where
        value_in : Answer Elements → Elements
        value_in (Ok xs) = xs
        value_in (Err e) = no_elements

        same : ◌≡◌ {A = Answer Elements} (Ok (sorted_elements ds)) (Ok es) → sorted_elements ds ≡ es
        same q = ap value_in q
    made_sorted (Ok ds) (Err f) a = absurd a
    made_sorted (Err e) (Ok m) (es, p, alike) = absurd (other p)
      where
        IsErr : Answer Elements → Type 0
        IsErr (Ok xs) = ⊥
        IsErr (Err g) = Unit {0}

        other : ◌≡◌ {A = Answer Elements} (Err e) (Ok es) → ⊥
        other q = subst IsErr q tt
    made_sorted (Err e) (Err f) a = a

    pub ordered_permitted : ((source : Source) → read S source ≡ into sorted (into make (read_elements source >>= read_list (read s)))) → ReadsByShape S (λ m. make (told m)) (λ source. After (read_elements source) (ReadsSet has eq reads))
    ordered_permitted reads_as source r a =
        let steps = reads_as source ∙ ap (into sorted) (into_next make (read_elements source) (read_list (read s))) ∙ into_next sorted (read_elements source) (λ ss. into make (read_list (read s) ss)) in
        subst (λ x. AnswersByShape (conforms S) Same (λ m. make (told m)) x r) (sym steps)
        (after (conforms S) Same (λ m. make (told m)) (ReadsSet has eq reads) (λ ss. into sorted (into make (read_list (read s) ss))) (λ ss q b. made_sorted (read_list (read s) ss) q (members_answered ss q b)) (read_elements source) r a)

  pub ordered_list_permitted : ReadsByShape (shape.ordered (shape.list s)) (told_list tells members) (λ source. After (read_elements source) (ReadsSet has eq reads))
  ordered_list_permitted = ordered_permitted (shape.ordered (shape.list s)) datum.seq (λ ds. refl) (in_ordered_list s) (λ ds es same. (es, refl, same)) (λ source. refl)

  pub ordered_set_permitted : (k : SetKind) → ReadsByShape (shape.ordered (shape.set k s)) (told_set k tells members) (λ source. After (read_elements source) (ReadsSet has eq reads))
  ordered_set_permitted k = ordered_permitted (shape.ordered (shape.set k s)) (λ ds. datum.newtype_struct (symbol k) (datum.seq ds)) (λ ds. refl) (in_ordered_set k s) (λ ds es same. (datum.seq es, refl, (es, refl, same))) (λ source. refl)
