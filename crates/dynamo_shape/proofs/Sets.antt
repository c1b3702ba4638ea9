-- What is written for a set reads back.
use Rattle.std.proofs.Common.{◌≡◌, List, [], ◌∷◌, Ok, Some, refl, sym, subst}
use Rattle.dynamo_shape.proofs.Common.{encode_utf8, signed_decimal, parse_back, value}
use Rattle.dynamo_shape.proofs.Common.{read_elements, Text, Source, attribute, plain_text}
use Rattle.dynamo_shape.proofs.Common.{number_text, byte_string, each, Datum, SetKind, strings}
use Rattle.dynamo_shape.proofs.Common.{numbers, blobs, symbol, IsElement, AllElements, conforms}
use Rattle.dynamo_shape.proofs.Common.{kept, kept_elements, read_list, read, ReadsBack, Same}
use Rattle.dynamo_shape.proofs.Common.{SameElements, Shape, char, string, bytes, integer, set, enum}
use Rattle.dynamo_shape.proofs.Common.{Av, N, S, B, set_kind, set_of, set_element, set_elements}
use Rattle.dynamo_shape.proofs.Common.{written, written_elements}
use Rattle.dynamo_value.specs.Av as av
use Rattle.dynamo_ser.specs.Datum as datum
use Rattle.dynamo_shape.proofs.Alike.{data_refl}
use Rattle.dynamo_shape.proofs.Keys.{units_back}
use Rattle.dynamo_shape.proofs.Results.{chars-encode}

abbrev source_of : SetKind → Text → Source
source_of strings = plain_text
source_of numbers = number_text
source_of blobs = byte_string

abbrev ElementBack : SetKind → Shape → Datum → Type 0
ElementBack k s d = (a : Av) × (t : Text) × (written d ≡ Ok a) × (set_element k a ≡ Ok t) × (read s (source_of k t) ≡ value d) × (kept d ≡ d)

moved : (k : SetKind) (s : Shape) (d e : Datum) → d ≡ e → ElementBack k s e → ElementBack k s d
moved k s d e p h = subst (ElementBack k s) (sym p) h

element_back : (k : SetKind) (s : Shape) (d : Datum) → IsElement k s → conforms s d → ElementBack k s d
element_back strings string d n c = moved strings string _ _ c.1 (S c.0, c.0, refl, refl, refl, refl)
element_back strings char d n c = moved strings char _ _ c.1 (S (encode_utf8 c.0), encode_utf8 c.0, refl, refl, rw (chars-encode c.0 c.2) refl, refl)
element_back strings (enum name vs) d n c = let h = units_back vs name 0 d n c in (S h.0, h.0, h.5, refl, h.4, h.3)
element_back numbers (integer k) d n c = moved numbers (integer k) _ _ c.1 (N (signed_decimal c.0), signed_decimal c.0, refl, refl, rw (parse_back k c.0 c.2) refl, refl)
element_back blobs bytes d n c = moved blobs bytes _ _ c.1 (B c.0, c.0, refl, refl, refl, refl)
element_back k s d n c = absurd n

abbrev ElementsBack : SetKind → Shape → datum.Elements → Type 0
ElementsBack k s ds = (as' : av.Elements) × (ts : List Text) × (written_elements ds ≡ Ok as') × (set_elements k as' ≡ Ok ts) × (read_list (read s) (each (source_of k) ts) ≡ value ds) × (kept_elements ds ≡ ds)

elements_back : (k : SetKind) (s : Shape) (ds : datum.Elements) → IsElement k s → AllElements (conforms s) ds → ElementsBack k s ds
elements_back k s datum.no_elements n c = (av.no_elements, [], refl, refl, refl, refl)
elements_back k s (datum.element d ds) n c =
    let h = element_back k s d n c.0 in
    let t = elements_back k s ds n c.1 in
    (av.element h.0 t.0, h.1 ∷ t.1, rw (h.2, t.2) refl, rw (h.3, t.3) refl, rw (h.4, t.4) refl, rw (h.5, t.5) refl)

pub symbol_kind : (k : SetKind) → set_kind (symbol k) ≡ Some k
symbol_kind strings = refl
symbol_kind numbers = refl
symbol_kind blobs = refl

set_shown : (k : SetKind) (ts : List Text) → read_elements (attribute (set_of k ts)) ≡ value (each (source_of k) ts)
set_shown strings ts = refl
set_shown numbers ts = refl
set_shown blobs ts = refl

-- the newtype and its list
set_same : (k : SetKind) (ds : datum.Elements) → kept_elements ds ≡ ds → Same (kept (datum.newtype_struct (symbol k) (datum.seq ds))) (datum.newtype_struct (symbol k) (datum.seq ds))
set_same k ds h = (datum.seq ds, refl, (ds, refl, subst (λ xs. SameElements xs ds) (sym h) (data_refl ds)))

pub set_back : (k : SetKind) (s : Shape) (ds : datum.Elements) → IsElement k s → AllElements (conforms s) ds → ReadsBack (set k s) (datum.newtype_struct (symbol k) (datum.seq ds))
set_back k s ds n c =
    let t = elements_back k s ds n c in
    (set_of k t.1, datum.newtype_struct (symbol k) (datum.seq ds), rw (symbol_kind k, t.2, t.3) refl, rw (set_shown k t.1, t.4) refl, set_same k ds t.5)
