use Rattle.dynamo_value.specs.Fault.{expected_num}
use Rattle.dynamo_value.specs.IntegerTypes.{kind_of}
use Rattle.dynamo_de.specs.Showing.{integer_showing}
use Rattle.dynamo_leaf.proofs.Integers.{integer_is, integer_no}
use Rattle.dynamo_leaf.proofs.leaf.show_key.Goals as goal

pub returns-in-Ok : goal.returns-in-Ok
returns-in-Ok c =
    rw c.in-Integer.is
    (integer_is (kind_of c.in-Integer.kind) c.args.text.now expected_num (integer_showing c.in-Ok.integer)
    (rw c.in-Ok.is at c.read_integer.ensures))

pub returns-in-Err : goal.returns-in-Err
returns-in-Err c =
    rw c.from.ensures
    (rw c.in-Integer.is
    (integer_no (kind_of c.in-Integer.kind) c.args.text.now expected_num
    (rw c.in-Err.is at c.read_integer.ensures)))
