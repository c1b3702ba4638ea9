use Rattle.std.proofs.Common.{arith, string_bytes, refl, None, Some}
use Rattle.std.proofs.lemmas.Str.{IsUtf8-string_bytes}
use Rattle.table_keys.specs.declared.key.KeyValue.{KeyValue}
use Rattle.table_keys.proofs.sort_range.prefixed.Goals as goal

pub returns-in-Some : goal.returns-in-Some
returns-in-Some c None held = rw (c.in_ok-low.ensures None) refl
returns-in-Some c (Some (KeyValue.S w)) held =
    let up_to = rw c.in-Some.is at c.in_ok-past-in-S.ensures in
    rw (
      c.in-S.is,
      c.in_ok-low.ensures (Some (KeyValue.S w)),
      c.first_at.ensures.0,
      c.first_at.ensures.1,
    )
    (grind (arith, up_to (string_bytes w) (IsUtf8-string_bytes w)))
returns-in-Some c (Some w) held =
    rw (c.in_ok-low.ensures (Some w), c.first_at.ensures.0, c.first_at.ensures.1, c.in-S.is) refl

pub returns-in-None : goal.returns-in-None
returns-in-None c None held = rw (c.in_ok-low.ensures None) refl
returns-in-None c (Some (KeyValue.S w)) held =
    let up_to = rw c.in-None.is at c.in_ok-past-in-S.ensures in
    rw (
      c.in-S.is,
      c.in_ok-low.ensures (Some (KeyValue.S w)),
      c.past_kind.ensures (Some (KeyValue.S w)) held,
    )
    (grind (arith, up_to (string_bytes w) (IsUtf8-string_bytes w)))
returns-in-None c (Some w) held =
    rw (c.in_ok-low.ensures (Some w), c.past_kind.ensures (Some w) held, c.in-S.is) refl
