use Rattle.std.proofs.Common.{take}
use Rattle.std.specs.Fmt.{IsPlainFormatter}
use Rattle.std.proofs.Debugs.{Shows}
use Rattle.dynamo_place.specs.PlaceText.{further_texts}
use Rattle.dynamo_place.proofs.place.write_further.Given as goal

abbrev pub invariant-loop-step : goal.invariant-loop-step
invariant-loop-step g l =
    IsPlainFormatter l.fn.f → Shows g.W.Write.write_str_gives l.fn.f (further_texts (take l.step-index l.steps)) l.f
