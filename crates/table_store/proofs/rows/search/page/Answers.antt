use Rattle.std.proofs.Common.{◌≡◌, ◌-◌, Err, Ok, inl, inr, length, rules, to_z-of_z}
use Rattle.table_store.specs.declared.error.StoreError.{StoreError}
use Rattle.table_store.proofs.Paged.{fails, full, goes_on}
use Rattle.table_store.proofs.Called.{is_list_err}
use Rattle.table_store.proofs.rows.search.page.Goals as goal

pub returns-in_err-items-clause-ran : goal.returns-in_err-items-clause-ran
returns-in_err-items-clause-ran g c clean =
    fails g.S.Store c.args.id c.args.start.now c.args.limit c.args.conn.now c.rest.new.conn c.in_err-items.field-0.0 _
    (rw (to_z-of_z c.ranges.id) at (c.in_err-items.ensures.ran clean)) (is_list_err c.from_residual.result _ c.from_residual.ensures.1)

pub returns-then-left-eq0-clause-ran : goal.returns-then-left-eq0-clause-ran
returns-then-left-eq0-clause-ran g c clean =
    let left : c.saturating_sub-left.result ≡ c.args.limit - length c.in_ok-items.items.items = search rules in
    full g.S.Store c.args.id c.args.start.now c.args.limit c.args.conn.now c.rest.new.conn c.in_ok-items.items.items
    c.saturating_sub-left.result left (rw (to_z-of_z c.ranges.id) at (c.in_ok-items.ensures.ran clean)) c.if-left-eq0.true

pub returns-in_err-more-clause-ran : goal.returns-in_err-more-clause-ran
returns-in_err-more-clause-ran g c clean =
    let left : c.saturating_sub-left.result ≡ c.args.limit - length c.in_ok-items.items.items = search rules in
    goes_on g.S.Store c.args.id c.args.start.now c.args.limit c.args.conn.now c.rest.new.conn c.in_ok-items.items.items
    c.saturating_sub-left.result left (rw (to_z-of_z c.ranges.id) at (c.in_ok-items.ensures.ran (c.following.ensures.clean clean))) c.if-left-eq0.false
    c.following.new.conn (Err c.in_err-more.field-0.0) _ (rw (to_z-of_z c.ranges.id) at (c.in_err-more.ensures.ran clean))
    (is_list_err c.from_residual-in_err-more.result _ c.from_residual-in_err-more.ensures.1)

pub returns-in_err-append-clause-ran : goal.returns-in_err-append-clause-ran
returns-in_err-append-clause-ran g c clean =
    let left : c.saturating_sub-left.result ≡ c.args.limit - length c.in_ok-items.items.items = search rules in
    goes_on g.S.Store c.args.id c.args.start.now c.args.limit c.args.conn.now c.rest.new.conn c.in_ok-items.items.items
    c.saturating_sub-left.result left (rw (to_z-of_z c.ranges.id) at (c.in_ok-items.ensures.ran (c.following.ensures.clean clean))) c.if-left-eq0.false
    c.following.new.conn (Ok c.in_ok-more.more.items) _ (rw (to_z-of_z c.ranges.id) at (c.in_ok-more.ensures.ran clean))
    (inr (is_list_err c.from_residual-in_err-append.result StoreError.OutOfMemory c.from_residual-in_err-append.ensures.1))

pub returns-clause-ran : goal.returns-clause-ran
returns-clause-ran g c clean =
    let left : c.saturating_sub-left.result ≡ c.args.limit - length c.in_ok-items.items.items = search rules in
    goes_on g.S.Store c.args.id c.args.start.now c.args.limit c.args.conn.now c.rest.new.conn c.in_ok-items.items.items
    c.saturating_sub-left.result left (rw (to_z-of_z c.ranges.id) at (c.in_ok-items.ensures.ran (c.following.ensures.clean clean))) c.if-left-eq0.false
    c.following.new.conn (Ok c.in_ok-more.more.items) _ (rw (to_z-of_z c.ranges.id) at (c.in_ok-more.ensures.ran clean)) (inl (search rules))
