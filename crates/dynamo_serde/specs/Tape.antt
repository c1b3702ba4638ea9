-- The place that a tape of the program stands for; for private clauses.
use Rattle.std.specs.Prelude.{List, Bool, true, false, map, drop}
use Rattle.dynamo_serde.specs.Laid.{Token, Place, null, boolean, number, text, bytes, key}
use Rattle.dynamo_serde.specs.Laid.{begin_list, begin_set, end_seq, begin_map, end_map}
use Rattle.dynamo_write.specs.SetKind.{kind_of}
use Rattle.dynamo_serde.specs.declared.tape.Token as tape
use Rattle.dynamo_serde.specs.declared.tape.Token.TheVariants as token
use Rattle.dynamo_serde.specs.declared.tape.Doubt.{Doubt}
use Rattle.dynamo_serde.specs.declared.tape.Doubt.TheVariants as doubt
use Rattle.dynamo_serde.specs.declared.tape.Tape.{Tape}

abbrev pub token_of : tape.Token → Token
token_of (token.Null b) = null b
token_of (token.Bool b) = boolean b
token_of (token.Number s) = number s.now
token_of (token.Text s) = text s.now
token_of (token.Bytes s) = bytes s.now
token_of token.BeginList = begin_list
token_of (token.BeginSet kind) = begin_set (kind_of kind)
token_of token.EndSeq = end_seq
token_of (token.BeginMap is_single) = begin_map
token_of token.EndMap = end_map
token_of (token.Key s) = key s.now

abbrev pub row : List tape.Token → List Token
row ts = map token_of ts

abbrev pub is_told : Doubt → Bool
is_told doubt.Told = true
is_told _ = false

abbrev pub ahead : Tape → List Token
ahead t = row (drop t.at t.tokens.items)

abbrev pub place : Tape → Place
place t = record { ahead = ahead t; told = is_told t.doubt }
