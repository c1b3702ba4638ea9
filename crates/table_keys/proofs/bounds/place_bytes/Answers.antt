use Rattle.std.proofs.Common.{sym, subst}
use Rattle.std.proofs.lemmas.Result.{IfOk-weaker}
use Rattle.table_keys.specs.Between.{IsPlaceBytes}
use Rattle.table_keys.proofs.PlaceBytes.{from_before, from_behind, from_end, from_start}
use Rattle.table_keys.proofs.bounds.place_bytes.Goals as goal

pub returns-in-Less : goal.returns-in-Less
returns-in-Less c =
    subst (IsPlaceBytes c.args.partition.now c.args.place.now) (sym c.new.ensures.items)
    (from_start c.args.partition.now c.args.place.now (sym c.in-Less.ensures))

pub returns-in_ok-vec-in-Greater : goal.returns-in_ok-vec-in-Greater
returns-in_ok-vec-in-Greater c =
    subst (IsPlaceBytes c.args.partition.now c.args.place.now) (sym c.in_ok-vec-in-Greater.ensures.items)
    (from_end c.args.partition.now c.args.place.now (sym c.in-Greater.ensures))

pub returns-in_ok-push-in-Equal : goal.returns-in_ok-push-in-Equal
returns-in_ok-push-in-Equal c =
    let start = c.in_ok-start-in-Equal in
    subst (IsPlaceBytes c.args.partition.now c.args.place.now) (sym c.in_ok-push-in-Equal.ensures.items)
    (from_behind c.args.partition.now c.args.place.now start.start.items (sym c.in-Equal.ensures) start.ensures c.if-place.true)

pub returns-in-Equal-2 : goal.returns-in-Equal-2
returns-in-Equal-2 c =
    IfOk-weaker c.sort_bytes-in-Equal-2.result _ _ (λ start is.
    from_before c.args.partition.now c.args.place.now start.items (sym c.in-Equal.ensures) is c.if-place.false)
    c.sort_bytes-in-Equal-2.ensures
