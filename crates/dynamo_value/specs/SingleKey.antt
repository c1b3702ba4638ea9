-- The object that stands for an attribute value in DynamoDB JSON has a single key, one of the prefixes. What is promised of a
-- refusal where it is no object, or has no key, or several, or one that is no prefix.
use Rattle.std.specs.Prelude.{ℕ, List, ◌++◌, Result, codes}
use Rattle.dynamo_value.specs.Fault.{message}
use Rattle.dynamo_value.specs.Prefix.{Prefix, prefix_of}
use Rattle.dynamo_value.specs.Refusal.{Refusal, fault, contains, or_refuse}

abbrev pub not_an_object : Refusal
not_an_object = contains (codes "expected an object with a single key")

abbrev pub no_key : Refusal
no_key = fault (message (codes "Expected exactly one key in the object, found none"))

abbrev pub several_keys : Refusal
several_keys = fault (message (codes "Expected exactly one key in the object, found multiple keys"))

abbrev pub unknown_key : List ℕ → Refusal
unknown_key key = fault (message (codes "The key '" ++ (key ++ codes "' is not a known DynamoDB prefix")))

-- the prefix that a key names
abbrev pub known : List ℕ → Result Prefix Refusal
known key = or_refuse (unknown_key key) (prefix_of key)
