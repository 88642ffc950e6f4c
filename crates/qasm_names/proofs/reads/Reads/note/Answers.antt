use Rattle.std.proofs.Common.{◌≡◌, ◌||◌, [], ◌∷◌, ◌++◌, None, is_none, Result, Ok, Err, OnOk, OnErr, ◌∙◌, ap, sym}
use Rattle.std.specs.Map.{lookup}
use Rattle.std.specs.Str.{bytes_eq}
use Rattle.indexmap.proofs.CallerLemmas.{insert_entry-new}
use Rattle.qasm_names.specs.Reads.{is_at}
use Rattle.qasm_names.specs.Registers.{is_whole, is_single}
use Rattle.qasm_names.specs.Tables.{named_by_bytes}
use Rattle.qasm_names.proofs.TablesLemmas.{FindsAt-lent, FindsAt-added}
use Rattle.qasm_names.proofs.ReadsLemmas.{reads_of-written, reads_of-kept}
use Rattle.qasm_names.proofs.reads.Reads.note.Goals as goal

both_ok : {T E P Q R : Type 0} (r : Result T E) → (P → Q → R) → OnOk r P → OnOk r Q → OnOk r R
both_ok (Ok x) f p q = f p q
both_ok (Err e) f p q = q

both_err : {T E P Q R : Type 0} (r : Result T E) → (P → Q → R) → OnErr r P → OnErr r Q → OnErr r R
both_err (Ok x) f p q = q
both_err (Err e) f p q = f p q

pub returns-in-Some-clause-ok : goal.returns-in-Some-clause-ok
returns-in-Some-clause-ok c =
    let word = c.args.word.now in
    let w = c.note.new.self in
    let old = c.in-Some.register.now in
    let after = c.get_mut.follows.lender w in
    let finds = FindsAt-lent word c.self.inside.registers.entries after.entries c.args.self.now w old c.self.view_is c.in-Some.ensures.value (c.get_mut.follows.holds w).0 in
    both_ok c.note.result (λ whole places. reads_of-written word c.args.index w c.args.self.now (named_by_bytes after.entries) finds.0 (whole ∙ ap (λ r. is_none c.args.index || is_whole r) (sym finds.1)) (λ k. places k ∙ ap (λ r. is_at c.args.index k || is_single r k) (sym finds.1))) c.note.ensures.whole c.note.ensures.places

pub returns-in-Some-clause-err : goal.returns-in-Some-clause-err
returns-in-Some-clause-err c =
    let word = c.args.word.now in
    let w = c.note.new.self in
    let old = c.in-Some.register.now in
    let after = c.get_mut.follows.lender w in
    let finds = FindsAt-lent word c.self.inside.registers.entries after.entries c.args.self.now w old c.self.view_is c.in-Some.ensures.value (c.get_mut.follows.holds w).0 in
    both_err c.note.result (λ whole places. reads_of-kept word w c.args.self.now (named_by_bytes after.entries) finds.0 (whole ∙ ap is_whole (sym finds.1)) (λ k. places k ∙ ap (λ r. is_single r k) (sym finds.1))) c.note.ensures.whole_stays c.note.ensures.places_stay

pub returns-in_ok-insert-in-None-clause-ok : goal.returns-in_ok-insert-in-None-clause-ok
returns-in_ok-insert-in-None-clause-ok c =
    let word = c.args.word.now in
    let key = c.in_ok-to_vec-in-None.field-0 in
    let w = c.note-in-None.new.self in
    let map = c.get_mut.follows.lender-at-none in
    let inner = c.self.inside.registers.entries in
    let is_word : key.items ≡ word = c.in_ok-to_vec-in-None.ensures.items_if_clones_equal (λ x y h. h) in
    let same : map.entries ≡ inner = ap (λ m. m.entries) c.get_mut.follows.holds-at-none in
    let none : None ≡ lookup (λ k. bytes_eq word k.items) inner = c.in-None.ensures.value in
    let absent : lookup (λ k. bytes_eq key.items k.items) map.entries ≡ None = ap (λ l. lookup (λ k. bytes_eq l k.items) map.entries) is_word ∙ ap (λ l. lookup (λ k. bytes_eq word k.items) l) same ∙ sym none in
    let added : c.insert.new.self.entries ≡ inner ++ (key, w) ∷ [] = c.in_ok-insert-in-None.ensures.entries ∙ insert_entry-new _ map key w absent ∙ ap (λ l. l ++ (key, w) ∷ []) same in
    let finds = FindsAt-added word key inner c.insert.new.self.entries c.args.self.now w c.self.view_is none is_word added in
    let e = c.in_ok-note-in-None.ensures in
    reads_of-written word c.args.index w c.args.self.now (named_by_bytes c.insert.new.self.entries) finds.0 (e.whole ∙ ap (λ r. is_none c.args.index || r) (c.new-register.ensures.whole ∙ ap is_whole (sym finds.1))) (λ k. e.places k ∙ ap (λ r. is_at c.args.index k || r) (c.new-register.ensures.places k ∙ ap (λ r. is_single r k) (sym finds.1)))
