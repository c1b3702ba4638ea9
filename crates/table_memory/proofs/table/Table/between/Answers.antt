use Rattle.std.proofs.Common.{◌≡◌, ◌∙◌, ◌-◌, ◌<◌, [], ◌∷◌, ◌++◌, take, refl, ap, sym, arith}
use Rattle.std.proofs.Common.{vec_len}
use Rattle.std.proofs.lemmas.Slice.{pushed}
use Rattle.table_keys.specs.Queries.{in_direction, seen}
use Rattle.table_memory.proofs.Pages.{Entries, one_more}
use Rattle.table_memory.proofs.table.Table.between.Goals as goal

pub loop-key-init : goal.loop-key-init
loop-key-init c =
    let none = c.new-page.ensures.len in
    let all : c.args.limit - vec_len c.new-page.result ≡ c.args.limit = omega arith in
    record {
      all = rw (c.new-page.ensures.items, all, c.range-left.ensures.between tt) refl;
      room = omega (arith, none);
    }

pub loop-key-preserved : goal.loop-key-preserved
loop-key-preserved c =
    let l = c.loop-key.invariant in
    let page = c.loop-key.page in
    let left : Entries = in_direction c.args.backward c.next_of.new.left in
    let items = pushed ((c.in-Some.key, c.in-Some.item) ∷ []) refl c.in_ok-push.was
    c.push.ensures.items in
    let count = c.in_ok-push.ensures.len in
    let room : vec_len page < c.args.limit =
    omega (arith, l.room, c.len.ensures, c.if-len-limit.false) in
    record {
      all = one_more page.items c.push.new.self.items (c.in-Some.key, c.in-Some.item) left
          c.args.limit (vec_len page) _ items count
          room ∙ ap (λ (es : Entries). seen page.items ++ take (c.args.limit - vec_len page) es)
          (sym c.in-Some.ensures) ∙ l.all;
      room = omega (arith, count, room);
    }
