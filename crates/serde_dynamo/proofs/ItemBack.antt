-- What is read of the item of a value.
use Rattle.std.proofs.Common.{◌≡◌, Result, Ok, Err, ap}
use Rattle.dynamo_value.specs.Av as av
use Rattle.dynamo_value.specs.Av.{Av, Members}
use Rattle.dynamo_value.specs.Fault.{Fault}
use Rattle.dynamo_value.specs.Steps.{◌>>=◌}
use Rattle.dynamo_ser.specs.Datum.{Datum}
use Rattle.dynamo_write.specs.Written.{written, item_written, members_in}
use Rattle.dynamo_de.specs.Source.{Source, attribute}
use Rattle.dynamo_value.proofs.Steps.{ok_same, err_ok}
use Rattle.dynamo_shape.specs.Clear.{Clear}
use Rattle.dynamo_shape.specs.Conforms.{conforms}
use Rattle.dynamo_shape.specs.Laws.{ReadsByShape}
use Rattle.dynamo_record.specs.About.{About}
use Rattle.serde_dynamo.proofs.ReadBack.{itself, not_refused}

-- what is written as an item is written as the map of it
was_map : (r : Result Av Fault) (ms : Members) → (r >>= members_in) ≡ Ok ms → r ≡ Ok (av.M ms)
was_map (Ok (av.M m)) ms h = ap (λ x. Ok (av.M x)) (ok_same h)
was_map (Ok (av.N t)) ms h = absurd (err_ok h)
was_map (Ok (av.S t)) ms h = absurd (err_ok h)
was_map (Ok (av.Boolean b)) ms h = absurd (err_ok h)
was_map (Ok (av.B b)) ms h = absurd (err_ok h)
was_map (Ok (av.Null b)) ms h = absurd (err_ok h)
was_map (Ok (av.L es)) ms h = absurd (err_ok h)
was_map (Ok (av.Ss ts)) ms h = absurd (err_ok h)
was_map (Ok (av.Ns ts)) ms h = absurd (err_ok h)
was_map (Ok (av.Bs bs)) ms h = absurd (err_ok h)
was_map (Err e) ms h = absurd (err_ok h)

module _ {T : Type 0} (about : About T) (tells : T → Datum) (told : about.tells ≡ tells)
    (reads : Source → Result T Fault → Type 0) (by_shape : ReadsByShape about.shape about.tells reads) where
  pub got : (v w : T) (ms : Members) → Clear about.shape → conforms about.shape (about.tells v) → item_written (tells v) ≡ Ok ms
      → conforms about.shape (about.tells w) → reads (attribute (av.M ms)) (Ok w) → about.same v w
  got v w ms clear c is k r =
      itself about tells told reads by_shape v w (av.M ms) clear c (was_map (written (tells v)) ms is) k r

  pub never_refused : (v : T) (f : Fault) (ms : Members) → Clear about.shape → conforms about.shape (about.tells v)
      → item_written (tells v) ≡ Ok ms → reads (attribute (av.M ms)) (Err f) → ⊥
  never_refused v f ms clear c is r =
      not_refused about tells told reads by_shape v (av.M ms) f clear.nearly c (was_map (written (tells v)) ms is) r
