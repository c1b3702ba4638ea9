use Rattle.std.proofs.Common.{◌≡◌, List, [], ◌∷◌, ◌++◌, map, length, arith, refl, sym, ap, ◌∙◌, append_assoc, append-nil}
use Rattle.std.proofs.lemmas.Result.{on_ok_weaker}
use Rattle.std.specs.Vec.Iter.{into_iter_items}
use Rattle.dynamo_value.specs.Entries.{Lent, entry_of, seen_entries}
use Rattle.dynamo_serde.specs.Laid.{key}
use Rattle.dynamo_serde.specs.Tape.{row}
use Rattle.dynamo_serde.proofs.Laying.{list_more, list_all, map_more, map_all}
use Rattle.dynamo_serde.proofs.tape.+lay.Goals as goal

pub lay_list-loop-item-preserved : goal.lay_list-loop-item-preserved
lay_list-loop-item-preserved t c =
    list_more c.deref-item-items.result.now c.loop-item.item-index c.item-item.result (row c.lay_one.new.tokens.items) (row c.loop-item.tokens.items) (row c.lay.new.tokens.items)
    c.loop-item-test.true c.item-item.is c.loop-item.invariant c.in_ok-lay.ensures

pub lay_list-returns : goal.lay_list-returns
lay_list-returns t c =
    on_ok_weaker c.lay_one-2.result
    (list_all c.args.items.now.items c.deref-item-items.result.now c.loop-item.item-index
    (row c.args.tokens.now.items) (row c.lay_one.new.tokens.items) (row c.loop-item.tokens.items) (row c.lay_one-2.new.tokens.items)
    c.deref-item-items.ensures.value c.loop-item-test.false c.in_ok-lay_one.ensures c.loop-item.invariant) c.lay_one-2.ensures

none : (es : List Lent) → length es ≡ 0 → es ≡ []
none [] h = refl
none (e ∷ es) h = absurd (omega arith)

pub lay_map-loop-key-init : goal.lay_map-loop-key-init
lay_map-loop-key-init t c = ([], refl, sym (append-nil (row c.lay_one.new.tokens.items)))

-- one entry more is laid
pub lay_map-loop-key-preserved : goal.lay_map-loop-key-preserved
lay_map-loop-key-preserved t c =
    let l = c.loop-key in
    let done = l.invariant.0 in
    let e : Lent = (c.in-Some-2.key, c.in-Some-2.value) in
    let left = into_iter_items c.next.new.self in (
      done ++ e ∷ [],
      append_assoc done (e ∷ []) left ∙ ap (λ es. done ++ es) (sym c.in-Some-2.ensures.steps.0) ∙ l.invariant.1,
      map_more done e (row c.lay_one.new.tokens.items) (row l.tokens.items) (row c.lay_one-in-loop-key.new.tokens.items) (row c.lay.new.tokens.items)
          l.invariant.2 (c.in_ok-lay_one-2.ensures ∙ ap (λ s. row l.tokens.items ++ key s ∷ []) c.as_str.ensures.value) c.in_ok-lay.ensures,
    )

pub lay_map-returns : goal.lay_map-returns
lay_map-returns t c =
    let l = c.loop-key in
    let done = l.invariant.0 in
    let left = l.key-iterator.rest in
    let whole : done ≡ c.in_ok-entries.entries.items =
    sym (append-nil done) ∙ ap (λ es. done ++ es) (sym (none left.items (sym left.ok.0 ∙ c.in-None.ensures.steps.0)))
    ∙ l.invariant.1 ∙ c.into_iter-key-iterator.ensures.into_iter_gives.0 in
    on_ok_weaker c.lay_one-2.result
    (map_all c.args.map.now.entries done (row c.args.tokens.now.items) (row c.lay_one.new.tokens.items) (row l.tokens.items) (row c.lay_one-2.new.tokens.items)
    (ap (λ es. seen_entries (map entry_of es)) whole ∙ c.in_ok-entries.ensures) c.in_ok-lay_one.ensures l.invariant.2) c.lay_one-2.ensures
