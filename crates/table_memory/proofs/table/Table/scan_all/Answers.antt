use Rattle.std.proofs.Common.{◌∙◌, ◌++◌, length, refl, sym, ap, arith, Some}
use Rattle.std.proofs.lemmas.List.{map-append, append-nil}
use Rattle.std.proofs.lemmas.Slice.{pushed}
use Rattle.table_memory.specs.Content.{entries_of}
use Rattle.table_keys.specs.Queries.{rest, seen}
use Rattle.table_memory.proofs.Pages.{Entries, entry}
use Rattle.table_memory.proofs.Scans.{page_left, page_none}
use Rattle.table_memory.proofs.table.Table.scan_all.Goals as goal

pub returns-in_default : goal.returns-in_default
returns-in_default c =
    let left = rest c.loop-all.start (entries_of c.args.self.now) in
    let none = page_none left c.max.result c.in_ok-page.page.items
    (omega (arith, c.max.ensures)) c.in_ok-page.ensures
    (ap length (sym c.as_slice.ensures.value) ∙ c.in_default.ensures.cases) in
    sym (append-nil (seen c.loop-all.all.items)) ∙ rw none at c.loop-all.invariant

pub loop-all-smaller : goal.loop-all-smaller
loop-all-smaller c =
    (page_left (entries_of c.args.self.now) c.loop-all.all.items c.in_ok-page.page.items
    c.in-Some.field-0-1.now
    c.in-Some.field-0-0.now c.loop-all.start c.max.result c.len.ensures.ordered c.in_ok-page.ensures
    (sym c.as_slice.ensures.value ∙ c.in-Some.ensures.cases.0) c.loop-all.invariant).1

pub loop-all-preserved : goal.loop-all-preserved
loop-all-preserved c =
    let es = entries_of c.args.self.now in
    let x = c.in-Some.field-0-0.now in
    let page = c.in_ok-page.page.items in
    let all = c.loop-all.all.items in
    let items = pushed page refl c.in_ok-append.was c.append.ensures.items in
    ap (λ (xs : Entries). xs ++ rest (Some x.0) es) (ap seen items ∙ map-append entry all page)
    ∙ (page_left es all page c.in-Some.field-0-1.now x c.loop-all.start c.max.result
    c.len.ensures.ordered c.in_ok-page.ensures
    (sym c.as_slice.ensures.value ∙ c.in-Some.ensures.cases.0) c.loop-all.invariant).0
