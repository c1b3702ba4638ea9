-- The symbols as this crate's code names them.
use Rattle.dynamo_write.specs.SetKind.{kind_of}
use Rattle.dynamo_serde.specs.Symbol as symbol
use Rattle.dynamo_serde.specs.declared.symbol.Symbol.{Symbol}
use Rattle.dynamo_serde.specs.declared.symbol.Symbol.TheVariants.{Set, Number, Null}

abbrev pub symbol_of : Symbol → symbol.Symbol
symbol_of (Set kind) = symbol.a_set (kind_of kind)
symbol_of Number = symbol.a_number
symbol_of Null = symbol.a_null
