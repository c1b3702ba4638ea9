-- The kinds of sets as the code names them.
use Rattle.dynamo_ser.specs.Symbols as symbols
use Rattle.dynamo_write.specs.declared.set.SetKind.{SetKind}
use Rattle.dynamo_write.specs.declared.set.SetKind.TheVariants.{Strings, Numbers, Blobs}

abbrev pub kind_of : SetKind → symbols.SetKind
kind_of Strings = symbols.strings
kind_of Numbers = symbols.numbers
kind_of Blobs = symbols.blobs
