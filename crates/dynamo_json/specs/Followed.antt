-- The texts of DynamoDB JSON that are followed to their end, a token at a time: those whose tokens
-- are the ones that are written for an attribute value or an item. Spaces and escapes are free, and
-- the members of a map come in any order, a name twice among them.
use Rattle.std.specs.Prelude.{◌≡◌, ◌≤◌, ℕ, List, ◌++◌, map}
use Rattle.std.specs.List.{AllByRecursion}
use Rattle.base64.specs.GeneralPurpose.{IsBytes}
use Rattle.json.specs.Lex.{tokens}
use Rattle.json.specs.Token.{Token}
use Rattle.serde_json.specs.Data as json
use Rattle.serde_json.specs.Data.{Data, depth, items_depth, members_depth}
use Rattle.serde_json.specs.Read.{max_depth}
use Rattle.dynamo_value.specs.Av as av
use Rattle.dynamo_value.specs.Av.{Av, Members}
use Rattle.dynamo_value.specs.Base64.{base64_text}
use Rattle.dynamo_value.specs.HasBytes.{HasBytes, ElementsHaveBytes, MembersHaveBytes}
use Rattle.dynamo_value.specs.Prefix as prefix
use Rattle.dynamo_value.specs.Prefix.{Prefix}
use Rattle.dynamo_json.specs.Json.{json_of, elements_json, members_json, item_json, strings}
use Rattle.dynamo_json.specs.OfText.{texts_json}
use Rattle.dynamo_json.specs.OneMember.{one_member}
use Rattle.dynamo_json.specs.StoredText.{tokens_in, tokens_within}
use Rattle.dynamo_json.specs.Tokens.{tokens_of}

-- the JSON object that has these attributes under this name, no deeper than a text may nest
abbrev pub IsWritable : List ℕ → Members → Type 0
IsWritable name members = MembersHaveBytes members
    × (depth (one_member name (item_json members)) ≤ max_depth)

-- the text spells that object
abbrev pub SpellsItem : List ℕ → List ℕ → Members → Type 0
SpellsItem text name members = IsWritable name members
    × (tokens text ≡ tokens_of (one_member name (item_json members)))

-- ---- for private clauses: what comes next in the tokens

-- the prefix of an attribute value, and what is under it
abbrev pub prefix_in : Av → Prefix
prefix_in (av.N text) = prefix.N
prefix_in (av.S text) = prefix.S
prefix_in (av.Boolean b) = prefix.Bool
prefix_in (av.B bytes) = prefix.B
prefix_in (av.Null b) = prefix.Null
prefix_in (av.M _) = prefix.M
prefix_in (av.L _) = prefix.L
prefix_in (av.Ss texts) = prefix.Ss
prefix_in (av.Ns texts) = prefix.Ns
prefix_in (av.Bs blobs) = prefix.Bs

abbrev pub content_in : Av → Data
content_in (av.N text) = json.string text
content_in (av.S text) = json.string text
content_in (av.Boolean b) = json.boolean b
content_in (av.B bytes) = json.string (base64_text bytes)
content_in (av.Null b) = json.boolean b
content_in (av.M members) = json.object (members_json members)
content_in (av.L elements) = json.array (elements_json elements)
content_in (av.Ss texts) = strings texts
content_in (av.Ns texts) = strings texts
content_in (av.Bs blobs) = strings (map base64_text blobs)

-- an attribute value, no deeper than so many levels
abbrev pub ValueIsNext : ℕ → List Token → Type 0
ValueIsNext d ts = (a : Av) × (rest : List Token) × HasBytes a × (depth (json_of a) ≤ d)
    × (ts ≡ tokens_of (json_of a) ++ rest)

-- its content, under this prefix
abbrev pub ContentIsNext : ℕ → Prefix → List Token → Type 0
ContentIsNext d p ts =
    (a : Av) × (rest : List Token) × (prefix_in a ≡ p) × HasBytes a × (depth (content_in a) ≤ d) × (ts ≡ tokens_of (content_in a) ++ rest)

-- the elements of a list and the members of a map, with the bracket that closes them
abbrev pub ElementsAreNext : ℕ → List Token → Type 0
ElementsAreNext d ts =
    (as' : av.Elements) × (rest : List Token) × ElementsHaveBytes as' × (items_depth (elements_json as') ≤ d)
    × (ts ≡ tokens_in (elements_json as') ++ rest)

abbrev pub MembersAreNext : ℕ → List Token → Type 0
MembersAreNext d ts =
    (ms : Members) × (rest : List Token) × MembersHaveBytes ms × (members_depth (members_json ms) ≤ d)
    × (ts ≡ tokens_within (members_json ms) ++ rest)

-- the texts of a set, and the base64 texts of one of byte strings
abbrev pub TextsAreNext : List Token → Type 0
TextsAreNext ts = (texts : List (List ℕ)) × (rest : List Token)
    × (ts ≡ tokens_in (texts_json texts) ++ rest)

abbrev pub BlobsAreNext : List Token → Type 0
BlobsAreNext ts =
    (blobs : List (List ℕ)) × (rest : List Token) × AllByRecursion IsBytes blobs × (ts ≡ tokens_in (texts_json (map base64_text blobs)) ++ rest)
