-- Why a command has nothing to print, and the text that says so.
use Rattle.std.specs.Prelude.{ℕ, List, Option, Some, None, codes}
use Rattle.dynamo_value.specs.Fault.{Fault, out_of_memory, printed}
use Rattle.dynamo_value.specs.Kind.{fault_of}
use Rattle.tool_commands.specs.declared.failure.Failure.{Failure}

-- The reader failed, or its end didn't come; what was read is no JSON; it has a fault, which may be
-- out of memory.
pub data Failed : Type 0 where
  read_failed not_json : Failed
  faulty : Fault → Failed

abbrev pub no_memory : Failed
no_memory = faulty out_of_memory

-- as contracts see the program's own type
abbrev pub reason : Failure → Failed
reason Failure.Read = read_failed
reason Failure.NotJson = not_json
reason (Failure.Fault error) = faulty (fault_of error)

-- what a text is refused by: it is no JSON, or there is this fault in it
abbrev pub failed_by : Option Fault → Failed
failed_by None = not_json
failed_by (Some fault) = faulty fault

-- the text, but where a fault's own text isn't promised
abbrev pub reason_text : Failed → Option (List ℕ)
reason_text read_failed = Some (codes "read failed")
reason_text not_json = Some (codes "input is not JSON")
reason_text (faulty fault) = printed fault
