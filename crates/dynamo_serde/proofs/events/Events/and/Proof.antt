-- `and` adds the event of the call to those that were sent.
use Rattle.std.proofs.Common.{List, [], ◌∷◌, ◌++◌, refl}
use contract.Running.{tables_of}
use Rattle.dynamo_serde.proofs.Steps.{Ura, Val, vptr, SProp, ent, Memory, Routine, Calls, Loops, WpFn, Tables, Fun, tables, WpFn-mono, Logic, ‵, raw, ◌⊛◌, prop, ◌$◌, ◌∵◌, !, qed, move, keep, drop, split, fsplit, fjoin, feq_l, regoal, suffices, done, agg, enter, returns, no_more, alloc_all, pass_all, free_all, look_at, sets, RefOf, yes, owns, plain, types_at, named_lft, nothing, Clauses, closing, alive, Meets, triple_of, entered, says, Stays, stay_dropped, walk_of, ends_at, walk_Meets, Goes-dropped, bare, bare_owned}
use Rattle.dynamo_serde.specs.Called.{event_of, and_then}
use Rattle.dynamo_serde.specs.contracts.events.Events as Events
use Rattle.dynamo_serde.specs.contracts.events.Call as Call
use Rattle.dynamo_serde.specs.contracts.events.Events.and as f
use Rattle.dynamo_serde.proofs.events.Events.and.Statement as stated
use Rattle.dynamo_serde.proofs.events.Events.and.Code as code

abbrev stayed : Stays f.ended.signature.params f.ended.kept
stayed = (stay_dropped _ yes, (stay_dropped _ yes, tt))

module _ {M : Type 1} {𝓤 : Ura M} (𝓛 : Logic 𝓤) (memory : Memory → SProp 𝓤) (run : Routine → Fun 𝓤) where
  open 𝓛 use {H}

  abbrev clauses : Clauses 𝓤 f.ended
  clauses = f.clauses 𝓛 memory run

  module _ (C : Calls 𝓤 H) (Λ : Loops 𝓤 H) (y : (walk_of 𝓛 f.ended stayed clauses).Ghost) where
    abbrev after : Val → SProp 𝓤
    after = (walk_of 𝓛 f.ended stayed clauses).post y

    walked : ent 𝓤 ((walk_of 𝓛 f.ended stayed clauses).pre y) (WpFn 𝓤 H C Λ code.function ((walk_of 𝓛 f.ended stayed clauses).args y) after)
    walked =
        let a = y.0.3 in let vs = y.0.4 in
        let events_at : Val = vptr a.0.ref_ptr.0 a.0.ref_ptr.1 in
        let call_at : Val = vptr a.1.0.ref_ptr.0 a.1.0.ref_ptr.1 in
        let more : (Events.the_row).Denot = record { sent = and_then a.0.now.sent (event_of a.1.0.now) } in
        qed 𝓛 ((raw (alive 𝓛 f.ended.signature y.0.0 y.0.1) ⊛ ‵ (owns (types_at f.ended.signature.params y.0.0) a vs)) ∷ raw ((clauses y.0.0 a).requires y.1) ∷ []) ∵
        keep ! (0 ∷ []) $ split ! $ move ! (1 ∷ []) $
        fsplit ! $ fsplit ! $ feq_l ! (λ self_is. drop ! $
        fsplit ! $ fsplit ! $ feq_l ! (λ call_is. drop ! $ drop ! $
        regoal ! (λ (us : List Val). prop (WpFn 𝓤 H C Λ code.function (us ++ (vs.1.0 ++ [])) after)) self_is refl $
        regoal ! (λ (us : List Val). prop (WpFn 𝓤 H C Λ code.function ((events_at ∷ []) ++ (us ++ [])) after)) call_is refl $
        enter ! C Λ code.function (events_at ∷ call_at ∷ []) after $ alloc_all ! (λ l. pass_all ! refl ((tt, tt), ((tt, tt), tt)) $
        sets ! (agg ! (no_more !)) refl (tt, tt) $
        nothing ! $ bare_owned ! $ fjoin ! $
        returns ! (look_at ! 0 refl) $ free_all ! refl $
        suffices ! _ (ends_at 𝓛 f.ended stayed clauses y bare more (tt, (tt, tt)) (tt, (tt, tt))) $ says ! refl $
        nothing ! $ nothing ! $ fjoin ! $ nothing ! $ fjoin ! $ move ! (2 ∷ 0 ∷ 1 ∷ []) $ done !)))

  meets : (𝓣 : Tables 𝓤 H) → Meets 𝓛 f.ended.signature (WpFn 𝓤 H 𝓣.C 𝓣.Λ code.function) (closing 𝓛 f.ended clauses)
  meets 𝓣 =
      let self_goes = Goes-dropped 𝓛 3 (RefOf (0 ∷ []) tt (plain (λ _. Events.the_row)) (λ _. tt)) yes (λ κs x w. refl) in
      let call_goes = Goes-dropped 𝓛 3 (RefOf (1 ∷ []) tt (plain (λ κs. Call.the_row (named_lft 3 2 tt κs))) (λ _. tt)) yes (λ κs x w. refl) in
      walk_Meets 𝓛 f.ended stayed (self_goes, (call_goes, tt)) clauses (WpFn 𝓤 H 𝓣.C 𝓣.Λ code.function) (WpFn-mono 𝓤 H 𝓛.laws 𝓣 code.function) (walked 𝓣.C 𝓣.Λ)

pub and_spec : {M : Type 1} → stated.statement M
unfolding tables_of
and_spec 𝓤 𝓛 𝓜 𝓡 wired =
    let 𝓣 : Tables 𝓤 𝓛.H = tables_of 𝓤 𝓛.H 𝓜 (tables 𝓤 𝓛.H 𝓜 𝓡 𝓡.env) in
    entered 𝓤 𝓛.H (triple_of 𝓛 f.ended.signature (closing 𝓛 f.ended (clauses 𝓛 𝓜.mem 𝓡.returns))) 𝓣.C 𝓣.Λ f.Key.name code.function
    (code.unfolded 𝓤 𝓛.H 𝓜 𝓡 wired) (meets 𝓛 𝓜.mem 𝓡.returns 𝓣)
