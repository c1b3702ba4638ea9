-- `none` leaves the list of events empty.
use Rattle.std.proofs.Common.{[], ◌∷◌, Some, refl}
use contract.Running.{tables_of}
use Rattle.dynamo_serde.proofs.Steps.{Ura, Val, SProp, ent, Memory, Routine, Calls, Loops, WpFn, Tables, Fun, tables, WpFn-mono, Logic, ‵, raw, ◌⊛◌, ◌$◌, ◌∵◌, !, qed, move, keep, drop, split, fjoin, suffices, done, agg, enter, returns, no_more, alloc_all, pass_all, free_all, look_at, sets, owns, types_at, nothing, Clauses, closing, alive, Meets, triple_of, entered, says, Stays, walk_of, ends_at, walk_Meets, bare, bare_owned}
use Rattle.dynamo_serde.specs.contracts.events.Events as Events
use Rattle.dynamo_serde.specs.contracts.events.Events.none as f
use Rattle.dynamo_serde.proofs.events.Events.none.Statement as stated
use Rattle.dynamo_serde.proofs.events.Events.none.Code as code

abbrev stayed : Stays f.ended.signature.params f.ended.kept
stayed = tt

module _ {M : Type 1} {𝓤 : Ura M} (𝓛 : Logic 𝓤) (memory : Memory → SProp 𝓤) (run : Routine → Fun 𝓤) where
  open 𝓛 use {H}

  abbrev clauses : Clauses 𝓤 f.ended
  clauses = f.clauses 𝓛 memory run

  module _ (C : Calls 𝓤 H) (Λ : Loops 𝓤 H) (y : (walk_of 𝓛 f.ended stayed clauses).Ghost) where
    abbrev after : Val → SProp 𝓤
    after = (walk_of 𝓛 f.ended stayed clauses).post y

    walked : ent 𝓤 ((walk_of 𝓛 f.ended stayed clauses).pre y) (WpFn 𝓤 H C Λ code.function ((walk_of 𝓛 f.ended stayed clauses).args y) after)
    walked =
        let none_sent : (Events.the_row).Denot = record { sent = Some [] } in
        qed 𝓛 ((raw (alive 𝓛 f.ended.signature y.0.0 y.0.1) ⊛ ‵ (owns (types_at f.ended.signature.params y.0.0) y.0.3 y.0.4)) ∷ raw ((clauses y.0.0 y.0.3).requires y.1) ∷ []) ∵
        keep ! (0 ∷ []) $ split ! $ move ! (1 ∷ []) $ drop ! $
        enter ! C Λ code.function [] after $ alloc_all ! (λ l. pass_all ! refl tt $
        sets ! (agg ! (no_more !)) refl (tt, tt) $
        nothing ! $ bare_owned ! $ fjoin ! $
        returns ! (look_at ! 0 refl) $ free_all ! refl $
        suffices ! _ (ends_at 𝓛 f.ended stayed clauses y bare none_sent tt tt) $ says ! refl $
        nothing ! $ move ! (2 ∷ 0 ∷ 1 ∷ []) $ done !)

  meets : (𝓣 : Tables 𝓤 H) → Meets 𝓛 f.ended.signature (WpFn 𝓤 H 𝓣.C 𝓣.Λ code.function) (closing 𝓛 f.ended clauses)
  meets 𝓣 = walk_Meets 𝓛 f.ended stayed tt clauses (WpFn 𝓤 H 𝓣.C 𝓣.Λ code.function) (WpFn-mono 𝓤 H 𝓛.laws 𝓣 code.function) (walked 𝓣.C 𝓣.Λ)

pub none_spec : {M : Type 1} → stated.statement M
unfolding tables_of
none_spec 𝓤 𝓛 𝓜 𝓡 wired =
    let 𝓣 : Tables 𝓤 𝓛.H = tables_of 𝓤 𝓛.H 𝓜 (tables 𝓤 𝓛.H 𝓜 𝓡 𝓡.env) in
    entered 𝓤 𝓛.H (triple_of 𝓛 f.ended.signature (closing 𝓛 f.ended (clauses 𝓛 𝓜.mem 𝓡.returns))) 𝓣.C 𝓣.Λ f.Key.name code.function
    (code.unfolded 𝓤 𝓛.H 𝓜 𝓡 wired) (meets 𝓛 𝓜.mem 𝓡.returns 𝓣)
