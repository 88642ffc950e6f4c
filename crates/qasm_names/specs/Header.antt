-- The header that an include of `qelib1.inc` stands for.
use Rattle.std.specs.Prelude.{ℕ, List, [], ◌∷◌, length, codes}
use Rattle.std.specs.List.{flat_map}
use Rattle.qasm_lex.specs.Lexed.{Lexed}
use Rattle.qasm_lex.specs.Cuts.{AreTokensOf}
use Rattle.qasm_form.specs.Symbols.{lexemes_of}
use Rattle.qasm_form.specs.Statements.{FallInto}
use Rattle.qasm_form.specs.declared.stmt.Stmt.{Stmt}

-- The 23 names of the header that a file can't declare beside it, from `u3` to `cz`.
abbrev pub fixed_names : List (List ℕ)
fixed_names =
    codes "u3" ∷ codes "u2" ∷ codes "u1" ∷ codes "cx" ∷ codes "id" ∷ codes "x" ∷ codes "y" ∷ codes "z" ∷ codes "h" ∷ codes "s" ∷ codes "sdg" ∷ codes "t" ∷ codes "tdg" ∷ codes "rx" ∷ codes "ry" ∷ codes "rz" ∷ codes "cy" ∷ codes "ch" ∷ codes "ccx" ∷ codes "crz" ∷ codes "cu1" ∷ codes "cu3" ∷ codes "cz" ∷ []

-- its lines, behind the version that opens each source: first the gates with fixed names, then those whose names a file
-- may take
abbrev pub header_lines : List (List ℕ)
header_lines =
    codes "OPENQASM 2.0;\n" ∷
    codes "gate u3(theta,phi,lambda) q { U(theta,phi,lambda) q; }\n" ∷
    codes "gate u2(phi,lambda) q { U(pi/2,phi,lambda) q; }\n" ∷
    codes "gate u1(lambda) q { U(0,0,lambda) q; }\n" ∷
    codes "gate cx c,t { CX c,t; }\n" ∷
    codes "gate id a { U(0,0,0) a; }\n" ∷
    codes "gate x a { u3(pi,0,pi) a; }\n" ∷
    codes "gate y a { u3(pi,pi/2,pi/2) a; }\n" ∷
    codes "gate z a { u1(pi) a; }\n" ∷
    codes "gate h a { u2(0,pi) a; }\n" ∷
    codes "gate s a { u1(pi/2) a; }\n" ∷
    codes "gate sdg a { u1(-pi/2) a; }\n" ∷
    codes "gate t a { u1(pi/4) a; }\n" ∷
    codes "gate tdg a { u1(-pi/4) a; }\n" ∷
    codes "gate rx(theta) a { u3(theta,-pi/2,pi/2) a; }\n" ∷
    codes "gate ry(theta) a { u3(theta,0,0) a; }\n" ∷
    codes "gate rz(phi) a { u1(phi) a; }\n" ∷
    codes "gate cy a,b { sdg b; cx a,b; s b; }\n" ∷
    codes "gate ch a,b { h b; sdg b; cx a,b; h b; t b; cx a,b; t b; h b; s b; x b; s a; }\n" ∷
    codes "gate ccx a,b,c { h c; cx b,c; tdg c; cx a,c; t c; cx b,c; tdg c; cx a,c; t b; t c; h c; cx a,b; t a; tdg b; cx a,b; }\n" ∷
    codes "gate crz(lambda) a,b { u1(lambda/2) b; cx a,b; u1(-lambda/2) b; cx a,b; }\n" ∷
    codes "gate cu1(lambda) a,b { u1(lambda/2) a; cx a,b; u1(-lambda/2) b; cx a,b; u1(lambda/2) b; }\n" ∷
    codes "gate cu3(theta,phi,lambda) c,t { u1((lambda-phi)/2) t; cx c,t; u3(-theta/2,0,-(phi+lambda)/2) t; cx c,t; u3(theta/2,phi,0) t; }\n" ∷
    codes "gate u(theta,phi,lambda) q { U(theta,phi,lambda) q; }\n" ∷
    codes "gate p(lambda) q { U(0,0,lambda) q; }\n" ∷
    codes "gate sx a { sdg a; h a; sdg a; }\n" ∷
    codes "gate sxdg a { s a; h a; s a; }\n" ∷
    codes "gate swap a,b { cx a,b; cx b,a; cx a,b; }\n" ∷
    codes "gate cswap a,b,c { cx c,b; ccx a,b,c; cx c,b; }\n" ∷
    codes "gate cp(lambda) a,b { p(lambda/2) a; cx a,b; p(-lambda/2) b; cx a,b; p(lambda/2) b; }\n" ∷
    codes "gate crx(lambda) a,b { u1(pi/2) b; cx a,b; u3(-lambda/2,0,0) b; cx a,b; u3(lambda/2,-pi/2,0) b; }\n" ∷
    codes "gate cry(lambda) a,b { ry(lambda/2) b; cx a,b; ry(-lambda/2) b; cx a,b; }\n" ∷
    codes "gate rzz(theta) a,b { cx a,b; rz(theta) b; cx a,b; }\n" ∷
    codes "gate rxx(theta) a,b { h a; h b; cx a,b; rz(theta) b; cx a,b; h b; h a; }\n" ∷ []

-- The lines one after another.
abbrev pub header_text : List ℕ
header_text = flat_map (λ line. line) header_lines

-- These are the statements into which the header's tokens fall.
pub record IsHeader (header : List Stmt) : Type 0 where
  pub lexed : Lexed
  pub tokens : AreTokensOf header_text lexed
  pub statements : FallInto (lexemes_of header_text lexed.tokens) 0 header (length lexed.tokens)
