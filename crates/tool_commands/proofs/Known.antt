-- A run over a reader and a writer that tell their bytes and never fail.
use Rattle.std.proofs.Common.{◌≡◌, ℕ, zero, suc, ◌+◌, ◌<◌, ◌⊎◌, List, [], ◌∷◌, ◌++◌, length, Option, Some, None, Result, Ok, Err, refl, ap, inl, inr, arith, length-append, sym, ◌∙◌, take, drop, take-append-drop}
use Rattle.std.specs.declared.io.Error.{Error}
use Rattle.serde_json.specs.Data.{Data}
use Rattle.tool_commands.specs.Checked.{ChecksJson}
use Rattle.tool_commands.specs.Converted.{ToDynamo, ToPlain}
use Rattle.tool_commands.specs.Failed.{Failed, no_memory}
use Rattle.tool_commands.specs.JsonText.{OfJson}
use Rattle.tool_commands.specs.Known.{TellsBytes, KeepsBytes, RunsOnKnown}
use Rattle.tool_commands.specs.Reading.{Reads, Follows, before, calls}
use Rattle.tool_commands.specs.Runs.{Ends, ReadsFor, Runs}
use Rattle.tool_commands.specs.Words.{Command, user, check, dynamo, plain}

-- all bytes, or out of memory
abbrev AllOr : List ℕ → Result (List ℕ) Failed → Type 0
AllOr bytes input = (input ≡ Ok bytes) ⊎ (input ≡ Err no_memory)

shorter : (b : ℕ) (bs rest all : List ℕ) (n : ℕ) → all ≡ (b ∷ bs) ++ rest → length all < suc n → length rest < n
shorter b bs rest all n split less =
    let lengths : length all ≡ suc (length bs + length rest) = ap length split ∙ ap suc (length-append bs rest) in
    omega arith

on : (bytes rest all : List ℕ) (input follows : Result (List ℕ) Failed) → all ≡ bytes ++ rest → input ≡ before bytes follows → AllOr rest follows → AllOr all input
on bytes rest all input follows split is (inl whole) = inl (cc)
on bytes rest all input follows split is (inr lacking) = inr (cc)

-- one call's bytes, where the calls after it give all or want memory
past : {R : Type 0} (left : R → List ℕ) (Rest : R → Result (List ℕ) Failed → R → Type 0) (n : ℕ)
    → ((reader : R) (input : Result (List ℕ) Failed) (end : R) → Rest reader input end → length (left reader) < n → AllOr (left reader) input)
    → (bytes : List ℕ) (reader next : R) (input : Result (List ℕ) Failed) (end : R) → left reader ≡ bytes ++ left next → (bytes ≡ [] → left reader ≡ [])
    → length (left reader) < suc n → Follows Rest (Ok bytes) next input end → AllOr (left reader) input
unfolding Follows
past left Rest n after [] reader next input end split none less (is, stays) = inl (is ∙ ap Ok (sym (none refl)))
past left Rest n after (b ∷ bs) reader next input end split none less (inl (follows, reads, is)) =
    on (b ∷ bs) (left next) (left reader) input follows split is (after next follows end reads (shorter b bs (left next) (left reader) n split less))
past left Rest n after (b ∷ bs) reader next input end split none less (inr (lacking, stays)) = inr lacking

pub reads_all : {R : Type 0} (gives : R → ℕ → Result (List ℕ) Error → R → Type 0) (left : R → List ℕ) → TellsBytes gives left
    → (n : ℕ) (reader : R) (input : Result (List ℕ) Failed) (end : R) → Reads gives n reader input end → length (left reader) < n → AllOr (left reader) input
unfolding Reads
reads_all gives left tells zero reader input end reads less = absurd (omega arith)
reads_all gives left tells (suc n) reader input end (room, answer, next, enough, gave, follows) less =
    let (bytes, is, split, none) = tells reader room answer next gave (omega arith) in
    past left (Reads gives n) n (reads_all gives left tells n) bytes reader next input end split none less (rw is at follows)

of_all : (Step : Result Data Failed → Result (List ℕ) Failed → Type 0) → (bytes : List ℕ) (input answer : Result (List ℕ) Failed) → AllOr bytes input → OfJson Step input answer → OfJson Step (Ok bytes) answer
of_all Step bytes input answer (inl all) made = rw all at made
of_all Step bytes input answer (inr lacking) (json, reads, step) =
    let same : json ≡ Err no_memory = rw lacking at reads in
    (json, rw same refl, step)

answers_all : {R : Type 0} (reads : R → ℕ → Result (List ℕ) Error → R → Type 0) (left : R → List ℕ) → TellsBytes reads left → (command : Option Command) (reader end : R) (input : Result (List ℕ) Failed)
    → ReadsFor command reads reader input end → length (left reader) < calls → (text : List ℕ) (status : ℕ) → Ends command input text status → Ends command (Ok (left reader)) text status
answers_all reads left tells None reader end input stays less text status answers = answers
answers_all reads left tells (Some (user id name age)) reader end input stays less text status answers = answers
answers_all reads left tells (Some check) reader end input made less text status (answer, checks, shows) =
    (answer, of_all ChecksJson (left reader) input answer (reads_all reads left tells calls reader input end made less) checks, shows)
answers_all reads left tells (Some dynamo) reader end input made less text status (answer, writes, shows) =
    (answer, of_all ToDynamo (left reader) input answer (reads_all reads left tells calls reader input end made less) writes, shows)
answers_all reads left tells (Some plain) reader end input made less text status (answer, writes, shows) =
    (answer, of_all ToPlain (left reader) input answer (reads_all reads left tells calls reader input end made less) writes, shows)

pub runs_on_known : {R W : Type 0} (reads : R → ℕ → Result (List ℕ) Error → R → Type 0) (writes : W → List ℕ → Result (Unit {0}) Error → W → Type 0) (command : Option Command) (reader end : R) (old new : W) (result : ℕ)
    → Runs reads writes command reader end old new result → RunsOnKnown reads writes command reader old new result
runs_on_known reads writes command reader end old new result (input, made, text, status, answers, (answer, wrote, is)) left held tells keeps less =
    let (ok, kept) = keeps old text answer new wrote in
    let same : result ≡ status = is ∙ rw ok refl in
    (text, kept, rw same (answers_all reads left tells command reader end input made less text status answers))

-- ---- there are such readers and writers: lists of bytes

none_at_end : (reader : List ℕ) (room : ℕ) → 0 < room → take room reader ≡ [] → reader ≡ []
none_at_end [] room some none = refl
none_at_end (b ∷ bs) zero some none = absurd (omega arith)
none_at_end (b ∷ bs) (suc room) some none = cc

reader_of_a_list : TellsBytes (λ reader room answer next. (answer ≡ Ok (take room reader)) × (next ≡ drop room reader)) (λ reader. reader)
reader_of_a_list reader room answer next (is, left) some = (take room reader, is, rw left (sym (take-append-drop room reader)), none_at_end reader room some)

writer_of_a_list : KeepsBytes (λ old bytes answer new. (answer ≡ Ok tt) × (new ≡ old ++ bytes)) (λ writer. writer)
writer_of_a_list old bytes answer new gave = gave
