use Rattle.std.proofs.Common.{◌∙◌, ap, sym}
use Rattle.std.specs.Map.{lookup}
use Rattle.std.specs.Str.{bytes_eq}
use Rattle.qasm_names.proofs.TablesLemmas.{lookup-named_by_bytes}
use Rattle.qasm_names.proofs.table.NameTable.get.Goals as goal

pub returns : goal.returns
returns c =
    c.copied.ensures ∙ c.get.ensures.value ∙ sym (lookup-named_by_bytes c.args.name.now c.self.inside.entries.entries) ∙ ap (λ es. lookup (bytes_eq c.args.name.now) es) c.self.view_is
