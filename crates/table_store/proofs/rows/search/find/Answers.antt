use Rattle.std.proofs.Common.{inl, inr, refl, sym, ap, ◌∙◌, arith}
use Rattle.table_store.specs.Faults.{QueryFails}
use Rattle.table_store.proofs.Called.{if_err}
use Rattle.table_store.proofs.Finds.{of_unread, one_more}
use Rattle.table_store.proofs.rows.search.find.Goals.{then-finds+in_ok-push, else-finds}
use Rattle.table_store.proofs.rows.search.find.Goals as goal

pub loop-preserved : goal.loop-preserved
loop-preserved g c =
    elim c.if-finds.branch [
      | then-finds+in_ok-push w ↦
          one_more c.args.table.now.schema c.args.query.now c.loop.found.items c.if-finds.found.items c.in_ok-item.item c.in_ok-key_of.field-0
          (ap (λ v. v.items) w.found-is ∙ w.in_ok-push.ensures.items) c.loop.invariant.0 (omega (arith, c.len.ensures, c.if-len-query.false)) c.in_ok-key_of.ensures.reads (sym c.finds.ensures ∙ w.if-finds.true)
      | else-finds w ↦ rw (ap (λ v. v.items) w.found-is) c.loop.invariant
    ]

pub returns-in_err-row-clause-errors : goal.returns-in_err-row-clause-errors
returns-in_err-row-clause-errors g c =
    let r = c.from_residual-in_err-row in
    if_err (QueryFails c.args.table.now.schema) r.result _ r.ensures.1 (inl (inl (inr (c.in_err-row.field-0.0, refl))))

pub returns-in_err-item-clause-errors : goal.returns-in_err-item-clause-errors
returns-in_err-item-clause-errors g c =
    let r = c.from_residual-in_err-item in
    if_err (QueryFails c.args.table.now.schema) r.result _ r.ensures.1 (inl (of_unread c.in_err-item.field-0.0 c.in_err-item.ensures))

pub returns-in_err-key_of-clause-errors : goal.returns-in_err-key_of-clause-errors
returns-in_err-key_of-clause-errors g c =
    let r = c.from_residual-in_err-key_of in
    if_err (QueryFails c.args.table.now.schema) r.result _ r.ensures.1
    (inr (c.in_ok-item.item, c.in_err-key_of.field-0.0, c.in_err-key_of.ensures.reads, refl))

pub returns-in_err-push-clause-errors : goal.returns-in_err-push-clause-errors
returns-in_err-push-clause-errors g c =
    let r = c.from_residual-in_err-push in
    if_err (QueryFails c.args.table.now.schema) r.result _ r.ensures.1 (inl (inl (inl refl)))
