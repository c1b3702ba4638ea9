use Rattle.std.proofs.Common.{rules, ◌≡◌, ℕ, ◌<◌, ◌-◌, ap, sym, ◌∙◌, get_or, length}
use Rattle.table_keys.specs.NumberBytes.{signed_bytes, turned}
use Rattle.table_keys.proofs.NumberBytesInOrder.{is_turned}
use Rattle.table_keys.proofs.number.Number.to_bytes.Goals as goal

pub returns-then-self : goal.returns-then-self
returns-then-self c = record {
  held = c.self.inside;
  is_normal = c.self.invariant;
  is_byte = c.size_bytes-bytes.ensures.is_byte;
  is_value = c.self.view_is;
  is_bytes =
      let each : (i d e : ℕ) → i < 18 → get_or c.map.result i e ≡ 255 - get_or c.size_bytes-bytes.result i d = λ i d e h. let one = c.map.ensures.items.at i d e h in search rules in
      let long : length c.size_bytes-bytes.result ≡ 18 = ap length c.size_bytes-bytes.ensures.bytes in
      let all = is_turned 18 c.size_bytes-bytes.result c.map.result long c.map.ensures.items.long each in
      all ∙ ap turned c.size_bytes-bytes.ensures.bytes ∙ sym (ap (λ b. signed_bytes b c.self.inside.power c.self.inside.coefficient) c.if-self.true);
}

pub returns-else-self : goal.returns-else-self
returns-else-self c = record {
  held = c.self.inside;
  is_normal = c.self.invariant;
  is_byte = c.size_bytes-bytes.ensures.is_byte;
  is_value = c.self.view_is;
  is_bytes = c.size_bytes-bytes.ensures.bytes ∙ sym (ap (λ b. signed_bytes b c.self.inside.power c.self.inside.coefficient) c.if-self.false);
}
