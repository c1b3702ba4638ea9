-- Values that tell the same data are the same by value, and values that are the same by value tell the same data.
use Rattle.std.proofs.Common.{List, [], ◌∷◌, Some, None, refl, sym, ap, subst}
use Rattle.dynamo_shape.proofs.Common.{⊤, Global, Vec, Datum, Elements, option_tells}
use Rattle.dynamo_shape.proofs.Common.{SameEach, SameOption, conforms, AllElements}
use Rattle.dynamo_shape.proofs.Common.{IsToldByValue, ToldAlike, Same, SameElements, Shape}
use Rattle.dynamo_ser.specs.Datum as datum
use Rattle.dynamo_shape.specs.Shape as shape
use Rattle.dynamo_ser.specs.Parts.{content_in, elements_in, head_in, tail_in}
use Rattle.dynamo_shape.proofs.Lists.{told_each, some_conforms}

abbrev IsSome : Datum → Type 0
IsSome (datum.some d) = ⊤
IsSome _ = ⊥

abbrev IsElement : Elements → Type 0
IsElement (datum.element d ds) = ⊤
IsElement datum.no_elements = ⊥

-- the parts of two lists that are the same
pub parts : (d : Datum) (ds es : Elements) (e : Datum) → SameElements (datum.element d ds) (datum.element e es) → Same d e × SameElements ds es
parts d ds es e h = (subst (Same d) (sym (ap head_in h.2)) h.3, subst (SameElements ds) (sym (ap tail_in h.2)) h.4)

each_told : {T : Type 0} (s : Shape) (tells : T → Datum) (same : T → T → Type 0) → IsToldByValue s tells same → (vs ws : List T) → AllElements (conforms s) (told_each tells vs) → AllElements (conforms s) (told_each tells ws) → SameElements (told_each tells vs) (told_each tells ws) → SameEach same vs ws
each_told s tells same h [] [] c d e = tt
each_told s tells same h [] (w ∷ ws) c d e = absurd (subst IsElement e tt)
each_told s tells same h (v ∷ vs) [] c d e = absurd (subst IsElement (sym e.2) tt)
each_told s tells same h (v ∷ vs) (w ∷ ws) c d e = let p = parts (tells v) (told_each tells vs) (told_each tells ws) (tells w) e in (h v w c.0 d.0 p.0, each_told s tells same h vs ws c.1 d.1 p.1)

in_list : (s : Shape) (ds : Elements) → conforms (shape.list s) (datum.seq ds) → AllElements (conforms s) ds
in_list s ds c = subst (AllElements (conforms s)) (sym (ap elements_in c.1)) c.2

pub list_told : {T : Type 0} (s : Shape) (tells : T → Datum) (same : T → T → Type 0) → IsToldByValue s tells same → IsToldByValue {T = Vec T Global} (shape.list s) (λ v. datum.seq (told_each tells v.items)) (λ v w. SameEach same v.items w.items)
list_told s tells same h v w c d e = each_told s tells same h v.items w.items (in_list s (told_each tells v.items) c) (in_list s (told_each tells w.items) d) (subst (SameElements (told_each tells v.items)) (sym (ap elements_in e.1)) e.2)

each_alike : {T : Type 0} (s : Shape) (tells : T → Datum) (same : T → T → Type 0) → ToldAlike s tells same → (vs ws : List T) → AllElements (conforms s) (told_each tells vs) → AllElements (conforms s) (told_each tells ws) → SameEach same vs ws → SameElements (told_each tells vs) (told_each tells ws)
each_alike s tells same h [] [] c d e = refl
each_alike s tells same h [] (w ∷ ws) c d e = absurd e
each_alike s tells same h (v ∷ vs) [] c d e = absurd e
each_alike s tells same h (v ∷ vs) (w ∷ ws) c d e = (tells w, told_each tells ws, refl, h v w c.0 d.0 e.0, each_alike s tells same h vs ws c.1 d.1 e.1)

pub list_alike : {T : Type 0} (s : Shape) (tells : T → Datum) (same : T → T → Type 0) → ToldAlike s tells same → ToldAlike {T = Vec T Global} (shape.list s) (λ v. datum.seq (told_each tells v.items)) (λ v w. SameEach same v.items w.items)
list_alike s tells same h v w c d e = (told_each tells w.items, refl, each_alike s tells same h v.items w.items (in_list s (told_each tells v.items) c) (in_list s (told_each tells w.items) d) e)

pub option_told : {T : Type 0} (s : Shape) (tells : T → Datum) (same : T → T → Type 0) → IsToldByValue s tells same → IsToldByValue (shape.option s) (option_tells tells) (SameOption same)
option_told s tells same h None None c d e = tt
option_told s tells same h None (Some w) c d e = absurd (subst IsSome (sym e) tt)
option_told s tells same h (Some v) None c d e = absurd (subst IsSome (sym e.1) tt)
option_told s tells same h (Some v) (Some w) c d e = h v w (some_conforms s (tells v) c) (some_conforms s (tells w) d) (subst (Same (tells v)) (sym (ap content_in e.1)) e.2)

pub option_alike : {T : Type 0} (s : Shape) (tells : T → Datum) (same : T → T → Type 0) → ToldAlike s tells same → ToldAlike (shape.option s) (option_tells tells) (SameOption same)
option_alike s tells same h None None c d e = refl
option_alike s tells same h None (Some w) c d e = absurd e
option_alike s tells same h (Some v) None c d e = absurd e
option_alike s tells same h (Some v) (Some w) c d e = (tells w, refl, h v w (some_conforms s (tells v) c) (some_conforms s (tells w) d) e)
