use Rattle.std.proofs.Common.{◌≡◌, ℕ, ◌⊎◌, inl, inr, List, Option, None, Some, Result, Ok, Err, refl, sym, subst}
use Rattle.std.specs.Prelude.{IfErr, OnOk}
use Rattle.std.proofs.lemmas.Result.{err_from_is_err_and}
use Rattle.zac_io.specs.Outside.{NamedFiles, Appends, AppendsPrefix}
use Rattle.zair_form.specs.declared.program.Instr.{Instr}
use Rattle.zair_text.specs.Lines.{program_text, program_lines}
use Rattle.zair_text.specs.Ranges.{AreWritable}
use Rattle.zair_text.specs.Writing.{AppendsLines}
use Rattle.zac_flow.specs.Answers.{WritesProgram}
use Rattle.zac_flow.specs.Compiled.{MayCompileTo}
use Rattle.zac_flow.specs.Faults.{Leaves, MeansByFiles}
use Rattle.zac_flow.specs.Words.{Compile, FileWords}
use Rattle.zac_flow.specs.Due.{two_files}
use Rattle.zac_flow.specs.Panel.{Reading}
use Rattle.zac_fault.specs.declared.status.Fault.{Fault}
use Rattle.zac_fault.specs.declared.status.Fault.TheVariants.{Write, Memory}
use Rattle.zac_flow.proofs.flow.compile_files.Goals as goal

-- a program that was written, where its text was
written : (only : (a b : List Instr) → AreWritable a → AreWritable b → program_text a ≡ program_text b → a ≡ b) → (files : Option NamedFiles) (words : FileWords) (old new : Option (List ℕ)) (program : List Instr) (r : Result Unit Fault) → MayCompileTo files words program →
    OnOk r (Appends old new (program_text program)) → OnOk r (AreWritable program) → OnOk r (WritesProgram files words old new)
written only files words old new program (Ok x) compiles text writable = record {
  program = program;
  compiles = compiles;
  text = text;
  writable = writable;
  alone = λ other can same. only other program can writable same;
}
written only files words old new program (Err f) compiles text writable = tt

pub returns-in_err-inputs-clause-means : goal.returns-in_err-inputs-clause-means
returns-in_err-inputs-clause-means g c =
    let p = err_from_is_err_and c.from_residual.result c.from_residual.ensures.1 in
    let files = g.S.Shelf.files c.args.shelf.now in
    rw p.1 (subst (λ (f : Fault). MeansByFiles files (two_files c.args.card.now c.args.source.now) f) (sym p.2) (c.in_err-inputs.ensures.means None))

pub returns-clause-done : goal.returns-clause-done
returns-clause-done g c = λ panel panel'.
    written c.one_text_one_program.ensures (g.S.Shelf.files c.args.shelf.now) (two_files c.args.card.now c.args.source.now) (g.K.Sink.written c.args.out.now) (g.K.Sink.written c.write_text.new.out) c.in_ok-compiled.compiled.program c.write_text.result
    (c.in_ok-inputs.inputs, c.in_ok-inputs.ensures.given, c.in_ok-compiled.ensures.ok.0) c.write_text.ensures.text c.write_text.ensures.writable

-- what a fault in writing left
left : (files : Option NamedFiles) (card source : List ℕ) (old new : Option (List ℕ)) (panel panel' : List Reading) (program : List Instr) (r : Result Unit Fault) → MayCompileTo files (two_files card source) program →
    IfErr r (λ f. ((f ≡ Write) × AppendsPrefix old new (program_text program)) ⊎ ((f ≡ Memory) × AppendsLines old new (program_lines program))) →
    IfErr r (Leaves files (Some (Compile card source)) old new panel panel')
left files card source old new panel panel' program (Ok x) compiles h = tt
left files card source old new panel panel' program (Err f) compiles (inl h) =
    subst (λ (x : Fault). Leaves files (Some (Compile card source)) old new panel panel' x) (sym h.0) (program_text program, (program, compiles, refl), h.1)
left files card source old new panel panel' program (Err f) compiles (inr h) =
    subst (λ (x : Fault). Leaves files (Some (Compile card source)) old new panel panel' x) (sym h.0) (inl (program, compiles, h.1))

pub returns-clause-leaves : goal.returns-clause-leaves
returns-clause-leaves g c = λ panel panel'.
    left (g.S.Shelf.files c.args.shelf.now) c.args.card.now c.args.source.now (g.K.Sink.written c.args.out.now) (g.K.Sink.written c.write_text.new.out) panel panel' c.in_ok-compiled.compiled.program c.write_text.result
    (c.in_ok-inputs.inputs, c.in_ok-inputs.ensures.given, c.in_ok-compiled.ensures.ok.0) c.write_text.ensures.fault
