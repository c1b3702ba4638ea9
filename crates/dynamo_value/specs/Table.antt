-- A hashed map from names to attribute values, and its type as the logic holds it, for what a `&mut` lends.
use denote.RattleType.{RattleType}
use Rattle.std.specs.Prelude.{String}
use Rattle.std.specs.HashMap.{HashMap}
use Rattle.std.specs.declared.alloc.Global.{Global}
use Rattle.std.specs.declared.hash.FoldHasher.{FoldHasher}
use Rattle.std.specs.declared.hash.BuildHasherDefault.{BuildHasherDefault}
use Rattle.std.specs.contracts.alloc.Global as global
use Rattle.std.specs.contracts.string.String as string
use Rattle.std.specs.contracts.collections.HashMap as hash_map
use Rattle.std.specs.contracts.hash.BuildHasherDefault as build_hasher
use Rattle.std.specs.contracts.hash.FoldHasher as hasher
use Rattle.std.specs.contracts.impls.GlobalAllocator.TheImpl as allocator
use Rattle.std.specs.contracts.impls.StringHash.TheImpl as string_hash
use Rattle.std.specs.contracts.impls.StringPartialEq.TheImpl as string_eq
use Rattle.std.specs.contracts.prelude.BuildHasherDefaultBuildHasher.TheImpl as builds
use Rattle.std.specs.contracts.prelude.FoldHasherHasher.TheImpl as hashes
use Rattle.std.below.core.specs.contracts.clone.Clone+copy.TheImpl as copies
use Rattle.dynamo_value.specs.contracts.attribute_value.AttributeValue.{the_row}
use Rattle.dynamo_value.specs.declared.attribute_value.AttributeValue.{AttributeValue}

abbrev pub Table : Type 0
Table = HashMap (String Global) AttributeValue (BuildHasherDefault FoldHasher)

abbrev pub table_row : RattleType
table_row =
    hash_map.the_row (string.the_row global.the_row allocator.ghosts) the_row (build_hasher.the_row hasher.the_row) global.the_row hasher.the_row
    (string_eq.ghosts global.the_row allocator.ghosts string_eq.no_dict string_eq.no_dict)
    (string_hash.ghosts global.the_row allocator.ghosts string_hash.no_dict string_hash.no_dict)
    (builds.ghosts hasher.the_row hashes.ghosts builds.no_dict (copies.ghosts hasher.the_row) builds.no_dict) hashes.ghosts allocator.ghosts
