-- What holds of the fields that follow those of a list.
use Rattle.std.proofs.Common.{◌≡◌, ℕ, suc, ◌+◌, length, ◌∷◌, refl, sym, ap, subst, ◌∙◌, arith}
use Rattle.dynamo_ser.specs.Datum.{Datum}
use Rattle.dynamo_shape.specs.Shape.{Shape}
use Rattle.dynamo_shape.proofs.FieldsByName.{fill_slot}
use Rattle.dynamo_record.specs.Fields.{read_nth}
use Rattle.dynamo_record.specs.Listed.{Shapes, Holds, HoldsField, HoldsBoth, HoldsBehind}
use Rattle.dynamo_record.specs.Listed.{FilledBehind, ReadBehind, Counts, is_filled}

-- So many fields, held so, of these shapes: each that follows is filled, found filled and read by
-- its number after them.
pub record Behind {X : Type 0} (count : ℕ) (holds : Holds X) (shapes : Shapes → Shapes) :
    Type 0 where
  pub holds_behind : HoldsBehind count holds
  pub filled : FilledBehind count holds
  pub read : ReadBehind count shapes
  pub counted : Counts count shapes

next : (i : ℕ) → suc i ≡ 1 + i
next i = omega arith

slot_filled : {T : Type 0} (s : Shape) (tells : T → Datum) → HoldsBehind 1 (HoldsField s tells)
slot_filled s tells x os more i d h = subst
    (λ n. HoldsField s tells x (fill_slot n d os) (fill_slot i d more)) (next i)
    (h.0, ap (fill_slot i d) h.1)

slot_found : {T : Type 0} (s : Shape) (tells : T → Datum) → FilledBehind 1 (HoldsField s tells)
slot_found s tells x os more i h = ap (λ n. is_filled n os) (sym (next i))
    ∙ ap (is_filled i) (sym h.1)

shape_read : (s : Shape) → ReadBehind 1 (λ ss. s ∷ ss)
shape_read s ss i source = subst (λ n. read_nth n (s ∷ ss) source ≡ read_nth i ss source) (next i)
    refl

shape_counted : (s : Shape) → Counts 1 (λ ss. s ∷ ss)
shape_counted s ss = next (length ss)

pub field_behind : {T : Type 0} (s : Shape) (tells : T → Datum)
    → Behind 1 (HoldsField s tells) (λ ss. s ∷ ss)
field_behind s tells = record {
  holds_behind = slot_filled s tells;
  filled = slot_found s tells;
  read = shape_read s;
  counted = shape_counted s;
}

grouped : (a b i : ℕ) → a + (b + i) ≡ (a + b) + i
grouped a b i = omega arith

both_hold : {X Y : Type 0} (a b : ℕ) (left : Holds X) (right : Holds Y) → HoldsBehind a left
    → HoldsBehind b right
    → HoldsBehind (a + b) (HoldsBoth left right)
both_hold a b left right behind behind_right x os more i d h =
    (fill_slot (b + i) d h.0, subst (λ n. left x.0 (fill_slot n d os) (fill_slot (b + i) d h.0)) (grouped a b i) (behind x.0 os h.0 (b + i) d h.1), behind_right x.1 h.0 more i d h.2)

both_filled : {X Y : Type 0} (a b : ℕ) (left : Holds X) (right : Holds Y) → FilledBehind a left
    → FilledBehind b right
    → FilledBehind (a + b) (HoldsBoth left right)
both_filled a b left right first second x os more i h = ap (λ n. is_filled n os)
    (sym (grouped a b i))
    ∙ (first x.0 os h.0 (b + i) h.1 ∙ second x.1 h.0 more i h.2)

both_read : (a b : ℕ) (left right : Shapes → Shapes) → ReadBehind a left → ReadBehind b right
    → ReadBehind (a + b) (λ ss. left (right ss))
both_read a b left right first second ss i source = ap (λ n. read_nth n (left (right ss)) source)
    (sym (grouped a b i))
    ∙ (first (right ss) (b + i) source ∙ second ss i source)

both_counted : (a b : ℕ) (left right : Shapes → Shapes) → Counts a left → Counts b right
    → Counts (a + b) (λ ss. left (right ss))
both_counted a b left right first second ss = first (right ss)
    ∙ (ap (λ n. a + n) (second ss) ∙ grouped a b (length ss))

pub both_behind : {X Y : Type 0} {a b : ℕ} {holds : Holds X} {others : Holds Y}
    {left right : Shapes → Shapes}
    → Behind a holds left → Behind b others right
    → Behind (a + b) (HoldsBoth holds others) (λ ss. left (right ss))
both_behind {X} {Y} {a} {b} {holds} {others} {left} {right} first second = record {
  holds_behind = both_hold a b holds others first.holds_behind second.holds_behind;
  filled = both_filled a b holds others first.filled second.filled;
  read = both_read a b left right first.read second.read;
  counted = both_counted a b left right first.counted second.counted;
}
