-- What is written by way of plain JSON: the attribute value of what the plain JSON value tells, or
-- the fault of plain JSON.
use Rattle.std.specs.Prelude.{Result}
use Rattle.dynamo_value.specs.Av.{Av}
use Rattle.dynamo_value.specs.Fault.{Fault}
use Rattle.dynamo_value.specs.Steps.{◌>>=◌}
use Rattle.dynamo_ser.specs.Datum.{Datum}
use Rattle.dynamo_ser.specs.JsonValue.{json_datum}
use Rattle.dynamo_write.specs.Written.{written}
use Rattle.dynamo_json.specs.Plain.{plain}

abbrev pub via_json : Datum → Result Av Fault
via_json d = plain d >>= λ j. written (json_datum j)
