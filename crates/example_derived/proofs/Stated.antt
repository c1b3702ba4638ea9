-- What is written of an option and of a list, from the events that serde states.
use Rattle.std.proofs.Common.{◌≡◌, ℕ, pos, List, [], ◌∷◌, map, Bool, true, Option, Some, None, Ok, refl, ap}
use Rattle.std.specs.Prelude.{decimal, MatchOption}
use Rattle.serde.specs.Event as event
use Rattle.serde.specs.Event.{Log, Logs, WritesOption, WritesSeq}
use Rattle.dynamo_value.specs.Av as av
use Rattle.dynamo_value.specs.Av.{Av, elements_of}
use Rattle.dynamo_serde.specs.Steps.{◌>>=◌}
use Rattle.dynamo_serde.specs.Datum as datum
use Rattle.dynamo_serde.specs.Datum.{Datum, u64}
use Rattle.dynamo_serde.specs.Sent.{IsValueOf}
use Rattle.dynamo_serde.specs.Told.{AreTold}
use Rattle.dynamo_serde.specs.Written.{written, written_elements}
use Rattle.dynamo_serde.proofs.Sends.{written_so, seq_sends}

pub optional_written : (b : Option Bool) (a : Av) → (log : Log) × WritesOption (λ c old new. Logs old new (event.boolean c)) b (Some []) log × IsValueOf log a
    → MatchOption b (a ≡ av.Null true) (λ c. a ≡ av.Boolean c)
optional_written None a h = let is = written_so (λ old new. Logs old new event.nothing) datum.none a (λ es new k. k) tt h in cc (is)
optional_written (Some c) a h = let is = written_so (λ old new. Logs old new (event.boolean c)) (datum.boolean c) a (λ es new k. k) tt h in cc (is)

abbrev number : ℕ → Datum
number n = datum.integer u64 (pos n)

all_told : (ns : List ℕ) → AreTold (datum.elements_of (map number ns))
all_told [] = tt
all_told (n ∷ ns) = (tt, all_told ns)

all_written : (ns : List ℕ) → written_elements (datum.elements_of (map number ns)) ≡ Ok (elements_of (map (λ n. av.N (decimal n)) ns))
all_written [] = refl
all_written (n ∷ ns) = ap (λ x. x >>= λ as'. Ok (av.element (av.N (decimal n)) as')) (all_written ns)

pub numbers_written : (ns : List ℕ) (a : Av) → (log : Log) × WritesSeq (λ n old new. Logs old new (event.unsigned n)) ns (Some []) log × IsValueOf log a
    → a ≡ av.L (elements_of (map (λ n. av.N (decimal n)) ns))
numbers_written ns a h =
    let sends = seq_sends (λ n old new. Logs old new (event.unsigned n)) number (λ n es new k. k) ns in
    let is = written_so (WritesSeq (λ n old new. Logs old new (event.unsigned n)) ns) (datum.seq (datum.elements_of (map number ns))) a sends (all_told ns) h in
    let all : written (datum.seq (datum.elements_of (map number ns))) ≡ Ok (av.L (elements_of (map (λ n. av.N (decimal n)) ns))) = ap (λ x. x >>= λ as'. Ok (av.L as')) (all_written ns) in
    cc (is, all)
