-- The events of serde's own impls: those of the datum that the library's own impl tells for the same value.
use Rattle.std.proofs.Common.{◌≡◌, arith, List, [], ◌∷◌, ◌++◌, map, length, Some, refl, sym, ap, ◌∙◌, subst, append_assoc, append-nil}
use Rattle.serde.specs.Event as event
use Rattle.serde.specs.Event.{Event, Log, WritesEach, WritesSeq}
use Rattle.dynamo_value.specs.Av.{Av}
use Rattle.dynamo_ser.specs.Datum as datum
use Rattle.dynamo_ser.specs.Datum.{Datum, elements_of}
use Rattle.dynamo_write.specs.Written.{written}
use Rattle.std.specs.Prelude.{Ok}
use Rattle.dynamo_serde.specs.Sent.{IsValueOf}
use Rattle.dynamo_serde.specs.Told.{events, elements_events, elements_count, IsTold, Sends}
use Rattle.dynamo_serde.proofs.Told.{is_written}

-- a value whose events are a datum's is written as the datum
pub written_so : (writes : Log → Log → Type 0) (d : Datum) (a : Av) → Sends writes d → IsTold d → (log : Log) × writes (Some []) log × IsValueOf log a → written d ≡ Ok a
written_so writes d a sends is h = is_written d a is (subst (λ log. IsValueOf log a) (sends [] h.0 h.1) h.2)

counted : {A : Type 0} (tell : A → Datum) (xs : List A) → elements_count (elements_of (map tell xs)) ≡ length xs
counted tell [] = refl
counted tell (x ∷ xs) = omega (arith, counted tell xs)

each_sent : {A : Type 0} (w : A → Log → Log → Type 0) (tell : A → Datum) → ((x : A) → Sends (w x) (tell x)) → (xs : List A) (es : List Event) (new : Log)
    → WritesEach w xs (Some es) new → new ≡ Some (es ++ elements_events (elements_of (map tell xs)))
each_sent w tell each [] es new h = h ∙ ap Some (sym (append-nil es))
each_sent w tell each (x ∷ xs) es new h =
    let more = each_sent w tell each xs (es ++ events (tell x)) new (subst (λ log. WritesEach w xs log new) (each x es h.0 h.1) h.2) in
    more ∙ ap Some (append_assoc es (events (tell x)) (elements_events (elements_of (map tell xs))))

pub seq_sends : {A : Type 0} (w : A → Log → Log → Type 0) (tell : A → Datum) → ((x : A) → Sends (w x) (tell x)) → (xs : List A)
    → Sends (WritesSeq w xs) (datum.seq (elements_of (map tell xs)))
seq_sends w tell each xs es new h =
    let begin = event.seq_begins (Some (length xs)) in
    let inside = elements_events (elements_of (map tell xs)) in
    let all = each_sent w tell each xs (es ++ begin ∷ []) h.1 (subst (λ log. WritesEach w xs log h.1) h.2 h.3) in
    let ended : new ≡ Some (((es ++ begin ∷ []) ++ inside) ++ event.seq_ends ∷ []) = subst (λ log. event.Logs log new event.seq_ends) all h.4 in
    let same : ((es ++ begin ∷ []) ++ inside) ++ event.seq_ends ∷ [] ≡ es ++ (begin ∷ (inside ++ event.seq_ends ∷ [])) =
    append_assoc (es ++ begin ∷ []) inside (event.seq_ends ∷ []) ∙ append_assoc es (begin ∷ []) (inside ++ event.seq_ends ∷ []) in
    ended ∙ ap Some same ∙ ap (λ n. Some (es ++ (event.seq_begins (Some n) ∷ (inside ++ event.seq_ends ∷ [])))) (sym (counted tell xs))
