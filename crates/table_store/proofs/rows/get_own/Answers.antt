use Rattle.std.proofs.Common.{Err, None, Ok, Some, ap, refl, rules, to_z-of_z, w64, SFits}
use Rattle.table_store.specs.Runs.{GetsOwn}
use Rattle.table_store.proofs.Called.{is_err}
use Rattle.table_store.proofs.Ran.{own_found}
use Rattle.table_store.proofs.rows.get_own.Goals as goal

pub returns-in_err-item-clause-ran : goal.returns-in_err-item-clause-ran
unfolding GetsOwn
returns-in_err-item-clause-ran g c clean =
    let fits : SFits w64 c.args.table.now.id = search rules in
    (Err c.in_err-item.field-0.0, rw (to_z-of_z fits) at (c.in_err-item.ensures.ran clean), is_err c.from_residual.result _ c.from_residual.ensures.1)

pub returns-in_err-of_key-in-Some-clause-ran : goal.returns-in_err-of_key-in-Some-clause-ran
unfolding GetsOwn
returns-in_err-of_key-in-Some-clause-ran g c clean =
    let fits : SFits w64 c.args.table.now.id = search rules in (
      Ok (Some c.in-Some.item),
      rw (c.in-Some.is, to_z-of_z fits) at (c.in_ok-item.ensures.ran clean),
      own_found c.args.table.now.schema c.args.key.now c.in-Some.item (Err c.in_err-of_key-in-Some.field-0.0)
          c.from_residual-in_err-of_key-in-Some.result c.in_err-of_key-in-Some.ensures.exact
          c.from_residual-in_err-of_key-in-Some.ensures.1,
    )

pub returns-in_ok-of_key-in-Some-clause-ran : goal.returns-in_ok-of_key-in-Some-clause-ran
unfolding GetsOwn
returns-in_ok-of_key-in-Some-clause-ran g c clean =
    let fits : SFits w64 c.args.table.now.id = search rules in
    let own = c.in_ok-of_key-in-Some.field-0 in (
      Ok (Some c.in-Some.item),
      rw (c.in-Some.is, to_z-of_z fits) at (c.in_ok-item.ensures.ran clean),
      own_found c.args.table.now.schema c.args.key.now c.in-Some.item (Ok own) (Ok (Some own)) c.in_ok-of_key-in-Some.ensures.exact
          (ap (λ item. Ok (Some item)) c.in_ok-of_key-in-Some.ensures.own.0),
    )

pub returns-in-None-clause-ran : goal.returns-in-None-clause-ran
unfolding GetsOwn
returns-in-None-clause-ran g c clean =
    let fits : SFits w64 c.args.table.now.id = search rules in
    (Ok None, rw (c.in-None.is, to_z-of_z fits) at (c.in_ok-item.ensures.ran clean), refl)
