use Rattle.std.proofs.Common.{◌≡◌, ◌∙◌, List, [], ◌∷◌, ◌++◌, length, ap, refl, sym, subst, append_assoc}
use Rattle.std.proofs.lemmas.List.{append-nil}
use Rattle.std.specs.List.{AllZip}
use Rattle.std.specs.Vec.Iter.{into_iter_items}
use Rattle.dynamo_value.specs.declared.item.Item.{Item}
use Rattle.table_typed_store.specs.Stored.{ReadsAs}
use Rattle.table_store.proofs.Zipped.{pushed}
use Rattle.table_typed_store.proofs.Each.{fails_at, wants_memory}
use Rattle.table_typed_store.proofs.store.TypedStore.values_from.Goals as goal

none : (xs : List Item) → length xs ≡ 0 → xs ≡ []
none [] h = refl
none (x ∷ xs) h = search

pub loop-item-init : goal.loop-item-init
loop-item-init g c = (
  [],
  c.into_iter-item-iterator.ensures.into_iter_gives.0,
  subst
      (AllZip (ReadsAs g.T.AsItem.reads_item) []) (sym c.in_ok-values.ensures.items) tt,
)

-- one value more was read
pub loop-item-preserved : goal.loop-item-preserved
loop-item-preserved g c =
    let l = c.loop-item.invariant in
    let item = c.in-Some.item in
    let left = into_iter_items c.next.new.self in (
      l.0 ++ item ∷ [],
      append_assoc l.0 (item ∷ []) left ∙ ap (λ xs. l.0 ++ xs) (sym c.in-Some.ensures.steps.0) ∙ l.1,
      rw c.in_ok-push.ensures.items (pushed (ReadsAs g.T.AsItem.reads_item) l.0 c.loop-item.values.items item
          c.in_ok-from_item.field-0 l.2 c.in_ok-from_item.ensures.read),
    )

pub returns-in_err-values-clause-exact : goal.returns-in_err-values-clause-exact
returns-in_err-values-clause-exact g c =
    wants_memory g.T.AsItem.reads_item c.args.found.items c.from_residual.result c.from_residual.ensures.1

pub returns-in_err-push-clause-exact : goal.returns-in_err-push-clause-exact
returns-in_err-push-clause-exact g c =
    wants_memory g.T.AsItem.reads_item c.args.found.items c.from_residual-in_err-push.result c.from_residual-in_err-push.ensures.1

pub returns-in_err-from_item-clause-exact : goal.returns-in_err-from_item-clause-exact
returns-in_err-from_item-clause-exact g c =
    let l = c.loop-item.invariant in
    fails_at g.T.AsItem.reads_item c.args.found.items l.0 (into_iter_items c.next.new.self) c.in-Some.item c.loop-item.values.items
    c.in_err-from_item.field-0.0 c.from_residual-in_err-from_item.result
    (ap (λ xs. l.0 ++ xs) (sym c.in-Some.ensures.steps.0) ∙ l.1) l.2 c.in_err-from_item.ensures.read
    c.from_residual-in_err-from_item.ensures.1

all_read : goal.returns-clause-read
all_read g c =
    let l = c.loop-item.invariant in
    let left = c.loop-item.item-iterator.rest in
    let all : l.0 ≡ c.args.found.items =
    sym (append-nil l.0) ∙ ap (λ xs. l.0 ++ xs) (sym (none left.items (sym left.ok.0 ∙ c.in-None.ensures.steps.0))) ∙ l.1 in
    subst (λ items. AllZip (ReadsAs g.T.AsItem.reads_item) items c.loop-item.values.items) all l.2

pub returns-clause-read : goal.returns-clause-read
returns-clause-read = all_read

pub returns-clause-exact : goal.returns-clause-exact
returns-clause-exact g c = all_read g c
