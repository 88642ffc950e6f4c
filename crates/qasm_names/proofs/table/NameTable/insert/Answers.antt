use Rattle.std.proofs.Common.{[], ◌∷◌, ◌++◌, ◌∙◌, ap, sym}
use Rattle.std.specs.Map.{lookup}
use Rattle.std.specs.Str.{bytes_eq}
use Rattle.indexmap.proofs.CallerLemmas.{insert_entry-new}
use Rattle.qasm_names.specs.Tables.{named_by_bytes}
use Rattle.qasm_names.proofs.TablesLemmas.{lookup-named_by_bytes, named_by_bytes-append}
use Rattle.qasm_names.proofs.table.NameTable.insert.Goals as goal

pub returns-clause-ok : goal.returns-clause-ok
returns-clause-ok c =
    let old = c.self.inside.entries in
    let name = c.args.name in
    let absent = sym (lookup-named_by_bytes name.items old.entries) ∙ ap (λ es. lookup (bytes_eq name.items) es) c.self.view_is ∙ c.requires in
    ap named_by_bytes (c.in_ok-insert.ensures.entries ∙ insert_entry-new _ old name c.args.meaning absent) ∙ named_by_bytes-append old.entries _ ∙ ap (λ es. es ++ (name.items, c.args.meaning) ∷ []) c.self.view_is
