-- The bytes of a byte string.
use Rattle.std.specs.Prelude.{ℕ, List}
use Rattle.dynamo_value.specs.declared.bytes.Bytes.{Bytes}
use Rattle.dynamo_value.specs.declared.bytes.ByteBuf.{ByteBuf}

abbrev pub octets_of : ByteBuf → List ℕ
octets_of b = b.bytes.items

abbrev pub lent_octets : Bytes → List ℕ
lent_octets b = b.slice.now
