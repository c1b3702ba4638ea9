use Rattle.dynamo_value.specs.Fault.{failed_to_parse_int}
use Rattle.dynamo_value.specs.IntegerTypes.{kind_of}
use Rattle.dynamo_de.specs.Showing.{integer_showing}
use Rattle.dynamo_leaf.proofs.Integers.{integer_is, integer_no}
use Rattle.dynamo_leaf.proofs.leaf.show_number.Goals as goal

pub returns-in-Ok : goal.returns-in-Ok
returns-in-Ok c =
    rw c.in-Integer.is
    (integer_is (kind_of c.in-Integer.kind) c.args.text.now (failed_to_parse_int c.args.text.now) (integer_showing c.in-Ok.number)
    (rw c.in-Ok.is at c.read_integer.ensures))

pub returns-in-Err : goal.returns-in-Err
returns-in-Err c =
    rw c.in-Integer.is
    (integer_no (kind_of c.in-Integer.kind) c.args.text.now (failed_to_parse_int c.args.text.now)
    (rw c.in-Err.is at c.read_integer.ensures))
