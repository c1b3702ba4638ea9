use Rattle.std.proofs.Common.{List, ℕ, [], Bor, map, sym, subst, ◌∙◌}
use Rattle.dynamo_record.proofs.Common.{into_iter_items, missed_name, listed}
use Rattle.dynamo_record.specs.Held as held
use Rattle.dynamo_record.proofs.HeldStructs.{HeldSoFar, held_read, held_fails, held_made, held_missed, none_left}
use Rattle.dynamo_record.proofs.Structs.{starts}
use Rattle.dynamo_record.proofs.held.read_held.Goals as goal

pub loop-name-init : goal.loop-name-init
loop-name-init g c = λ named es h.
    let a = listed g.R.Record.about g.R.Fields.FieldList.about in (
      es,
      subst (λ ps. held.Holds g.D.Reader.source ps es) (sym c.into_iter-name-iterator.ensures.into_iter_gives.0) h,
      starts a named g.R.Fields.FieldList.holds es c.unread-slots.result (c.unread-slots.ensures []),
    )

pub loop-name-preserved : goal.loop-name-preserved
loop-name-preserved g c = λ named es h.
    let a = listed g.R.Record.about g.R.Fields.FieldList.about in
    let left = into_iter_items c.next.new.self in
    let now = subst (λ ps. HeldSoFar a named g.R.Fields.FieldList.holds g.D.Reader.source es c.loop-name.slots ps) c.in-Some.ensures.steps.0 (c.loop-name.invariant named es h) in
    held_read a named g.R.Fields.FieldList.holds g.D.Reader.source es g.D.Error.Error.fault (c.in-Some.name, c.in-Some.value) left c.loop-name.slots c.read_held_entry.new.slots now
    (λ e os n s k. c.in_default.ensures named e os (c.as_str.ensures.value ∙ n) s k)

pub returns-in-Err : goal.returns-in-Err
returns-in-Err g c = λ named es h.
    let a = listed g.R.Record.about g.R.Fields.FieldList.about in
    let left = into_iter_items c.next.new.self in
    let now = subst (λ ps. HeldSoFar a named g.R.Fields.FieldList.holds g.D.Reader.source es c.loop-name.slots ps) c.in-Some.ensures.steps.0 (c.loop-name.invariant named es h) in
    held_fails a named g.R.Fields.FieldList.holds g.D.Reader.source es g.D.Error.Error.fault (c.in-Some.name, c.in-Some.value) left c.loop-name.slots c.read_held_entry.new.slots c.in-Err.error now
    (λ e os n s k. c.in-Err.ensures named e os (c.as_str.ensures.value ∙ n) s k)

pub returns-in-Ok : goal.returns-in-Ok
returns-in-Ok g c = λ named es h.
    let a = listed g.R.Record.about g.R.Fields.FieldList.about in
    let left = c.loop-name.name-iterator.rest in
    let none = none_left left.items (sym left.ok.0 ∙ c.in-None.ensures.steps.0) in
    let now = subst (λ ps. HeldSoFar a named g.R.Fields.FieldList.holds g.D.Reader.source es c.loop-name.slots ps) none (c.loop-name.invariant named es h) in
    held_made a named g.R.Fields.FieldList.holds g.D.Reader.source es g.D.Error.Error.fault c.loop-name.slots (Bor (List (Bor (List ℕ)))) (λ os. missed_name (map (λ n. n.now) c.names.result.now) (a.list.shapes []) (a.list.defaults []) os)
    c.in-Ok.completed.0 c.in-Ok.completed.1 c.make.result c.make.ensures now (λ os k. c.in-Ok.ensures [] [] os [] k)

pub returns-in-Err-complete : goal.returns-in-Err-complete
returns-in-Err-complete g c = λ named es h.
    let a = listed g.R.Record.about g.R.Fields.FieldList.about in
    let left = c.loop-name.name-iterator.rest in
    let none = none_left left.items (sym left.ok.0 ∙ c.in-None.ensures.steps.0) in
    let now = subst (λ ps. HeldSoFar a named g.R.Fields.FieldList.holds g.D.Reader.source es c.loop-name.slots ps) none (c.loop-name.invariant named es h) in
    held_missed a named g.R.Fields.FieldList.holds g.D.Reader.source es g.D.Error.Error.fault c.loop-name.slots (Bor (List (Bor (List ℕ)))) (λ os. missed_name (map (λ n. n.now) c.names.result.now) (a.list.shapes []) (a.list.defaults []) os)
    c.in-Err-complete.error now (λ os k. c.in-Err-complete.ensures [] [] os [] k)
