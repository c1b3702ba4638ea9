use Rattle.std.proofs.Common.{Err, Ok, inl, inr, rules}
use Rattle.table_typed_store.proofs.Changed.{fails, keeps, updates}
use Rattle.table_typed_store.specs.Calls.{ChangesItem}
use Rattle.table_typed_store.specs.Stored.{schema_of}
use Rattle.table_typed_store.specs.declared.error.TypedStoreError.{TypedStoreError}
use Rattle.table_typed_store.proofs.store.TypedStore.update.Goals as goal

pub returns-in-Ok-clause-changes : goal.returns-in-Ok-clause-changes
returns-in-Ok-clause-changes g c =
    let kept = c.in-Ok.ensures.changes in
    keeps g.T.AsItem.reads_item (goal.F-post g c.args.change) g.T.AsItem.written (schema_of c.args.self.now)
    c.args.key.now kept.0 kept.1 (search (rules, c.in-Ok.ensures.changes.2)) kept.3

pub returns-in-Err-clause-err : goal.returns-in-Err-clause-err
returns-in-Err-clause-err g c = elim c.in-Err.ensures.err [
  | inl own ↦ fails g.T.AsItem.reads_item (goal.F-post g c.args.change) g.T.AsItem.unwritten
      g.E.From.from_gives own.0 c.in-Err.field-0.0 (search (rules, own.1))
  | inr given ↦ inr (TypedStoreError.Store given.0, given.1)
]

pub returns-in-Ok-clause-ran : goal.returns-in-Ok-clause-ran
returns-in-Ok-clause-ran g c clean =
    updates g.S.Store _ (λ error e. g.E.From.from_gives (TypedStoreError.Store error) e) _
    (ChangesItem g.S.Store g.T.AsItem.written g.T.AsItem.unwritten g.T.AsItem.reads_item
    (goal.F-post g c.args.change) g.E.From.from_gives)
    (λ error e given. given) (λ item after how. search (rules, how)) (λ item e how. search (rules, how))
    c.args.key.now c.args.self.now.store.table c.args.self.now.store.conn c.update.new.self.conn
    (Ok tt) (c.in-Ok.ensures.ran clean)

pub returns-in-Err-clause-ran : goal.returns-in-Err-clause-ran
returns-in-Err-clause-ran g c clean =
    updates g.S.Store _ (λ error e. g.E.From.from_gives (TypedStoreError.Store error) e) _
    (ChangesItem g.S.Store g.T.AsItem.written g.T.AsItem.unwritten g.T.AsItem.reads_item
    (goal.F-post g c.args.change) g.E.From.from_gives)
    (λ error e given. given) (λ item after how. search (rules, how)) (λ item e how. search (rules, how))
    c.args.key.now c.args.self.now.store.table c.args.self.now.store.conn c.update.new.self.conn
    (Err c.in-Err.field-0) (c.in-Err.ensures.ran clean)
