-- What a tape says of the attribute value that it was laid from, where a reader holds it.
use Rattle.std.proofs.Common.{◌≡◌, false, sym, subst}
use Rattle.dynamo_value.specs.Av.{Av}
use Rattle.dynamo_serde.specs.Laid.{IsLaid}
use Rattle.dynamo_serde.specs.Tape.{ahead, place}
use Rattle.dynamo_serde.specs.declared.tape.Tape.{Tape}

abbrev pub AtStart : Av → Tape → Type 0
AtStart a t = IsLaid a (ahead t) × ((place t).told ≡ false)

pub held : (a : Av) (tape held_tape : Tape) → held_tape ≡ tape → AtStart a tape → AtStart a held_tape
held a tape held_tape same h = subst (AtStart a) (sym same) h
