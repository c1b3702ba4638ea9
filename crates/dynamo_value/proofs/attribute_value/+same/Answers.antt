use Rattle.std.proofs.Common.{arith, subst, sym}
use Rattle.dynamo_value.proofs.Equal.{refuted, lengths, strings-Decides, numbers-Decides, blobs-Decides}
use Rattle.dynamo_value.proofs.Members.{Entry, HasAll, as_long, has_value, has_some, same_from_all}
use Rattle.dynamo_value.proofs.attribute_value.+same.Goals as goal

pub same_other-returns-in-Ss-Ss : goal.same_other-returns-in-Ss-Ss
same_other-returns-in-Ss-Ss t c = let m = c.in-Ss-Ss in rw c.eq-in-Ss-Ss.ensures (strings-Decides c.args.a.now c.args.b.now m.a m.b m.is-0 m.is-1)

pub same_other-returns-in-Ns-Ns : goal.same_other-returns-in-Ns-Ns
same_other-returns-in-Ns-Ns t c = let m = c.in-Ns-Ns in rw c.eq-in-Ns-Ns.ensures (numbers-Decides c.args.a.now c.args.b.now m.a m.b m.is-0 m.is-1)

pub same_other-returns-in-Bs-Bs : goal.same_other-returns-in-Bs-Bs
same_other-returns-in-Bs-Bs t c = let m = c.in-Bs-Bs in rw c.eq-in-Bs-Bs.ensures (blobs-Decides c.args.a.now c.args.b.now m.a m.b m.is-0 m.is-1)

pub same_lists-returns-then-len : goal.same_lists-returns-then-len
same_lists-returns-then-len t c = refuted (λ e.
    let k = lengths c.args.a.now.items c.args.b.now.items e in let a = c.args.a.now.ok in let b = c.args.b.now.ok in
    c.if-len.true (omega arith))

pub same_maps-returns-then-len : goal.same_maps-returns-then-len
same_maps-returns-then-len t c = refuted (λ e.
    let k = as_long c.args.a.now.entries c.args.b.now.entries c.len.ensures.unique c.len-2.ensures.unique e in
    c.if-len.true cc)

pub same_maps-returns-then-not-same : goal.same_maps-returns-then-not-same
same_maps-returns-then-not-same t c = refuted (λ e.
    let a = c.args.a.now.entries in let b = c.args.b.now.entries in
    let left = λ (all : HasAll b a). subst (HasAll b) c.in-Some.ensures.steps (c.loop-key.invariant.1 all) in
    let entry : Entry = (c.in-Some.key.now, c.in-Some.value.now) in
    let k = has_value a b c.next.new.self entry c.len.ensures.unique left e c.in-Some-get.other.now c.in-Some-get.ensures.value in
    cc (c.if-not-same.true, c.same.ensures.1 k))

pub same_maps-returns-in-None-get : goal.same_maps-returns-in-None-get
same_maps-returns-in-None-get t c = refuted (λ e.
    let a = c.args.a.now.entries in let b = c.args.b.now.entries in
    let left = λ (all : HasAll b a). subst (HasAll b) c.in-Some.ensures.steps (c.loop-key.invariant.1 all) in
    let entry : Entry = (c.in-Some.key.now, c.in-Some.value.now) in
    has_some a b c.next.new.self entry c.len.ensures.unique left e c.in-None-get.ensures.value)

pub same_maps-returns : goal.same_maps-returns
same_maps-returns t c =
    let a = c.args.a.now.entries in let b = c.args.b.now.entries in
    let all : HasAll b a = c.loop-key.invariant.0 (subst (HasAll b) (sym c.in-None.ensures.steps.0) tt) in
    (λ _. same_from_all a b c.len.ensures.unique (cc) all, λ _. cc)
