-- The data that an attribute value tells: its DynamoDB JSON, a map of one pair whose key is the
-- prefix of its kind. The pairs of a map come in any order, at every depth, since it is a hashed
-- map that tells them.
use Rattle.std.specs.Prelude.{◌≡◌, ℕ, List, map}
use Rattle.dynamo_value.specs.Av as av
use Rattle.dynamo_value.specs.Av.{Av}
use Rattle.dynamo_value.specs.Base64.{base64_text}
use Rattle.dynamo_value.specs.Prefix as prefix
use Rattle.dynamo_ser.specs.AttributeDatum.{under}
use Rattle.dynamo_ser.specs.Datum as datum
use Rattle.dynamo_ser.specs.Datum.{Datum}
use Rattle.dynamo_ser.specs.Without.{Without}

abbrev pub strings : List (List ℕ) → datum.Elements
strings texts = datum.elements_of (map datum.string texts)

abbrev mutual
  pub Tells : Av → Datum → Type 0
  Tells (av.N text) d = d ≡ under prefix.N (datum.string text)
  Tells (av.S text) d = d ≡ under prefix.S (datum.string text)
  Tells (av.Boolean b) d = d ≡ under prefix.Bool (datum.boolean b)
  Tells (av.B bytes) d = d ≡ under prefix.B (datum.string (base64_text bytes))
  Tells (av.Null b) d = d ≡ under prefix.Null (datum.boolean b)
  Tells (av.M members) d = (ps : datum.Pairs) × (d ≡ under prefix.M (datum.map ps))
      × MembersTell members ps
  Tells (av.L elements) d = (ds : datum.Elements) × (d ≡ under prefix.L (datum.seq ds))
      × ElementsTell elements ds
  Tells (av.Ss texts) d = d ≡ under prefix.Ss (datum.seq (strings texts))
  Tells (av.Ns texts) d = d ≡ under prefix.Ns (datum.seq (strings texts))
  Tells (av.Bs blobs) d = d ≡ under prefix.Bs (datum.seq (strings (map base64_text blobs)))

  pub ElementsTell : av.Elements → datum.Elements → Type 0
  ElementsTell av.no_elements ds = ds ≡ datum.no_elements
  ElementsTell (av.element a as') ds = (d : Datum) × (rest : datum.Elements)
      × (ds ≡ datum.element d rest) × Tells a d × ElementsTell as' rest

  -- in any order
  pub MembersTell : av.Members → datum.Pairs → Type 0
  MembersTell av.no_members ps = ps ≡ datum.no_pairs
  MembersTell (av.member key a ms) ps = (d : Datum) × (others : datum.Pairs)
      × Without ps (datum.string key) d others
      × Tells a d × MembersTell ms others

-- An item tells the map of its attributes, in any order.
abbrev pub ItemTells : av.Members → Datum → Type 0
ItemTells members d = (ps : datum.Pairs) × (d ≡ datum.map ps) × MembersTell members ps
