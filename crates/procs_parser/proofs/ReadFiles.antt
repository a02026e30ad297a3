-- What is a file by the grammar is read as that file: its declarations, its procedures, its statements.
use Rattle.std.proofs.Common.{◌≡◌, ℕ, ◌<◌, Bool, true, false, List, [], ◌∷◌, ◌++◌, Some, None, refl, sym, ap, ◌∙◌, subst, append_assoc}
use Rattle.std.specs.Prelude.{if◌then◌else◌}
use Rattle.std.proofs.lemmas.List.{append-nil}
use Rattle.std.proofs.lemmas.Bool.{lt-ltb}
use Rattle.gr_word.specs.declared.variables.Label.TheVariants.{Public, Secret}
use Rattle.src_lexer.specs.declared.tokens.Kind.{Kind}
use Rattle.src_tree.specs.declared.trees.Decl.{Decl}
use Rattle.procs_tree.specs.Prelude.{Block, Parameter, Procedure, File}
use Rattle.src_parser.specs.Prelude.{Advance, Goes, Wrong, after_advance, with_braces, declared, Limits, Declares, NoMore, Scalar, Array, Among, Ready}
use Rattle.procs_parser.specs.Prelude.{HasNoHiddenName, SpellsBlock, Ends, SpellsParameter, AScalar, AnArray, SpellsParameters, LastOne, Another, Parameters, NoParameter, SomeParameters, Locals, NoLocal, Local, Procedures, NoProcedure, AProcedure, SpellsFile, AFile, Between, Naming, Doing, NoneYet, OneMore, Behind, AllRead, LocalFresh, Outside, InProcedure, is_hidden_token, taken, advanced, program_of, ParserState}
use Rattle.procs_parser.proofs.BlocksSpelled.{block_again}
use Rattle.procs_parser.proofs.StatementsOfFiles.{parsed, body_read}
use Rattle.src_lexer.specs.declared.tokens.Kind.TheVariants as kind
use Rattle.src_parser.specs.Tokenwise as tokenwise

-- tokens that don't begin with a label
abbrev NoLabel : List Kind → Type 0
NoLabel [] = Unit {0}
NoLabel (kind.Public ∷ ks) = ⊥
NoLabel (kind.Secret ∷ ks) = ⊥
NoLabel (k ∷ ks) = Unit {0}

writes_no_label : {most : Limits} {depth : ℕ} {tokens : List Kind} {block : Block}
    → SpellsBlock most depth tokens block → (more : List Kind) → NoLabel more → NoLabel (tokens ++ more)
writes_no_label Ends more h = h
writes_no_label _ more h = tt

procedures_no_label : {most : Limits} {tokens : List Kind} {ps : List Procedure}
    → Procedures most tokens ps → (more : List Kind) → NoLabel more → NoLabel (tokens ++ more)
procedures_no_label NoProcedure more h = h
procedures_no_label _ more h = tt

-- before the first statement of a file, and of a procedure
file_starts : (most : Limits) (decls : List Decl) (tokens : List Kind) → NoLabel tokens
    → parsed most (Between decls) tokens ≡ parsed most (Doing (Outside decls []) (Among [] [] Ready)) tokens
file_starts most decls [] h = refl
file_starts most decls (kind.Public ∷ ks) h = absurd h
file_starts most decls (kind.Secret ∷ ks) h = absurd h
file_starts most decls (_ ∷ ks) h = refl

body_starts : (most : Limits) (decls : List Decl) (procedures : List Procedure) (name : List ℕ) (ps : List Parameter)
    (ls : List Decl) (tokens : List Kind) → NoLabel tokens
    → parsed most (Naming decls procedures name (LocalFresh ps ls)) tokens
    ≡ parsed most (Doing (InProcedure decls procedures name ps ls) (Among [] [] Ready)) tokens
body_starts most decls procedures name ps ls [] h = refl
body_starts most decls procedures name ps ls (kind.Public ∷ ks) h = absurd h
body_starts most decls procedures name ps ls (kind.Secret ∷ ks) h = absurd h
body_starts most decls procedures name ps ls (_ ∷ ks) h = refl

-- declarations are read as their list
heads : (most : Limits) {front : List Kind} {decls : List Decl}
    → Declares front decls → (before : List Decl) (back : List Kind)
    → parsed most (Between before) (front ++ back) ≡ parsed most (Between (before ++ decls)) back
heads most NoMore before back = ap (λ z. parsed most (Between z) back) (sym (append-nil before))
heads most (Scalar {decls = decls} Public name rest) before back =
    heads most rest (before ++ declared Public name None ∷ []) back
    ∙ ap (λ z. parsed most (Between z) back) (append_assoc before (declared Public name None ∷ []) decls)
heads most (Scalar {decls = decls} Secret name rest) before back =
    heads most rest (before ++ declared Secret name None ∷ []) back
    ∙ ap (λ z. parsed most (Between z) back) (append_assoc before (declared Secret name None ∷ []) decls)
heads most (Array {decls = decls} Public name n rest) before back =
    heads most rest (before ++ declared Public name (Some n) ∷ []) back
    ∙ ap (λ z. parsed most (Between z) back) (append_assoc before (declared Public name (Some n) ∷ []) decls)
heads most (Array {decls = decls} Secret name n rest) before back =
    heads most rest (before ++ declared Secret name (Some n) ∷ []) back
    ∙ ap (λ z. parsed most (Between z) back) (append_assoc before (declared Secret name (Some n) ∷ []) decls)

-- parameters are read as their list
parameter_parsed : (most : Limits) {ts : List Kind} {p : Parameter} → SpellsParameter ts p
    → (decls : List Decl) (procedures : List Procedure) (name : List ℕ) (before : List Parameter)
    (ks : List Kind)
    → parsed most (Naming decls procedures name (OneMore before)) (ts ++ ks)
    ≡ parsed most (Naming decls procedures name (Behind (before ++ p ∷ []))) ks
parameter_parsed most (AScalar Public x) decls procedures name before ks = refl
parameter_parsed most (AScalar Secret x) decls procedures name before ks = refl
parameter_parsed most (AnArray x) decls procedures name before ks = refl

parameters_parsed : (most : Limits) {ts : List Kind} {ps : List Parameter} → SpellsParameters ts ps
    → (decls : List Decl) (procedures : List Procedure) (name : List ℕ) (before : List Parameter)
    (ks : List Kind)
    → parsed most (Naming decls procedures name (OneMore before)) (ts ++ kind.RParen ∷ ks)
    ≡ parsed most (Naming decls procedures name (AllRead (before ++ ps))) ks
parameters_parsed most (LastOne s) decls procedures name before ks =
    parameter_parsed most s decls procedures name before (kind.RParen ∷ ks)
parameters_parsed most (Another {tokens = tokens} {rest = rest} {p = p} {ps = ps} s more) decls procedures name before
    ks =
    rw (append_assoc tokens (kind.Semi ∷ rest) (kind.RParen ∷ ks))
    (parameter_parsed most s decls procedures name before (kind.Semi ∷ (rest ++ kind.RParen ∷ ks))
    ∙ (parameters_parsed most more decls procedures name (before ++ p ∷ []) ks
    ∙ ap (λ z. parsed most (Naming decls procedures name (AllRead z)) ks) (append_assoc before (p ∷ []) ps)))

parameters_start : (most : Limits) {ts : List Kind} {ps : List Parameter} → SpellsParameters ts ps
    → (decls : List Decl) (procedures : List Procedure) (name : List ℕ) (ks : List Kind)
    → parsed most (Naming decls procedures name NoneYet) (ts ++ ks)
    ≡ parsed most (Naming decls procedures name (OneMore [])) (ts ++ ks)
parameters_start most (LastOne (AScalar Public x)) decls procedures name ks = refl
parameters_start most (LastOne (AScalar Secret x)) decls procedures name ks = refl
parameters_start most (LastOne (AnArray x)) decls procedures name ks = refl
parameters_start most (Another (AScalar Public x) more) decls procedures name ks = refl
parameters_start most (Another (AScalar Secret x) more) decls procedures name ks = refl
parameters_start most (Another (AnArray x) more) decls procedures name ks = refl

all_parameters : (most : Limits) {ts : List Kind} {ps : List Parameter} → Parameters ts ps
    → (decls : List Decl) (procedures : List Procedure) (name : List ℕ) (ks : List Kind)
    → parsed most (Naming decls procedures name NoneYet) (ts ++ kind.RParen ∷ ks)
    ≡ parsed most (Naming decls procedures name (AllRead ps)) ks
all_parameters most NoParameter decls procedures name ks = refl
all_parameters most (SomeParameters s) decls procedures name ks =
    parameters_start most s decls procedures name (kind.RParen ∷ ks)
    ∙ parameters_parsed most s decls procedures name [] ks

-- locals are read as their list
locals_parsed : (most : Limits) {ts : List Kind} {ls : List Decl} → Locals ts ls
    → (decls : List Decl) (procedures : List Procedure) (name : List ℕ) (ps : List Parameter) (before : List Decl)
    (ks : List Kind)
    → parsed most (Naming decls procedures name (LocalFresh ps before)) (ts ++ ks)
    ≡ parsed most (Naming decls procedures name (LocalFresh ps (before ++ ls))) ks
locals_parsed most NoLocal decls procedures name ps before ks =
    ap (λ z. parsed most (Naming decls procedures name (LocalFresh ps z)) ks) (sym (append-nil before))
locals_parsed most (Local {decls = ls} Public x rest) decls procedures name ps before ks =
    locals_parsed most rest decls procedures name ps (before ++ declared Public x None ∷ []) ks
    ∙ ap (λ z. parsed most (Naming decls procedures name (LocalFresh ps z)) ks)
    (append_assoc before (declared Public x None ∷ []) ls)
locals_parsed most (Local {decls = ls} Secret x rest) decls procedures name ps before ks =
    locals_parsed most rest decls procedures name ps (before ++ declared Secret x None ∷ []) ks
    ∙ ap (λ z. parsed most (Naming decls procedures name (LocalFresh ps z)) ks)
    (append_assoc before (declared Secret x None ∷ []) ls)

-- the brace of a procedure
opens : (most : Limits) (decls : List Decl) (procedures : List Procedure) (name : List ℕ) (ps : List Parameter)
    (ks : List Kind) → 0 < most.braces
    → parsed most (Naming decls procedures name (AllRead ps)) (kind.LBrace ∷ ks)
    ≡ parsed most (Naming decls procedures name (LocalFresh ps [])) ks
opens most decls procedures name ps ks room =
    ap (λ t. after_advance (with_braces t (Naming decls procedures name (LocalFresh ps [])))
    (λ state. parsed most state ks))
    (lt-ltb 0 most.braces room)

-- procedures are read as their list
procedures_parsed : (most : Limits) {ts : List Kind} {procedures : List Procedure}
    → Procedures most ts procedures → (decls : List Decl) (before : List Procedure) (ks : List Kind)
    → parsed most (Doing (Outside decls before) (Among [] [] Ready)) (ts ++ ks)
    ≡ parsed most (Doing (Outside decls (before ++ procedures)) (Among [] [] Ready)) ks
procedures_parsed most NoProcedure decls before ks =
    ap (λ z. parsed most (Doing (Outside decls z) (Among [] [] Ready)) ks) (sym (append-nil before))
procedures_parsed most (AProcedure {ps = ps} {ls = ls} {body = body} {rest = rest} {parameters = parameters}
    {locals = locals} {block = block} {others = others} name p room l w more) decls before ks =
    rw (
      append_assoc ps (kind.RParen ∷ kind.LBrace ∷ (ls ++ (body ++ kind.RBrace ∷ rest))) ks,
      append_assoc ls (body ++ kind.RBrace ∷ rest) ks,
      append_assoc body (kind.RBrace ∷ rest) ks,
    )
    (all_parameters most p decls before name (kind.LBrace ∷ (ls ++ (body ++ kind.RBrace ∷ (rest ++ ks))))
    ∙ (opens most decls before name parameters (ls ++ (body ++ kind.RBrace ∷ (rest ++ ks))) room
    ∙ (locals_parsed most l decls before name parameters [] (body ++ kind.RBrace ∷ (rest ++ ks))
    ∙ (body_starts most decls before name parameters locals (body ++ kind.RBrace ∷ (rest ++ ks))
    (writes_no_label w (kind.RBrace ∷ (rest ++ ks)) tt)
    ∙ (body_read w (InProcedure decls before name parameters locals) refl (kind.RBrace ∷ (rest ++ ks)) tt
    ∙ (ap (λ z. parsed most (Doing (Outside decls
    (before ++ record { name = name; parameters = parameters; locals = locals; body = z } ∷ [])) (Among [] [] Ready))
    (rest ++ ks)) (block_again block)
    ∙ (procedures_parsed most more decls
    (before ++ record { name = name; parameters = parameters; locals = locals; body = block } ∷ []) ks
    ∙ ap (λ z. parsed most (Doing (Outside decls z) (Among [] [] Ready)) ks)
    (append_assoc before (record { name = name; parameters = parameters; locals = locals; body = block } ∷ [])
    others))))))))

file_parsed : {most : Limits} {tokens : List Kind} {f : File} → SpellsFile most tokens f
    → parsed most (Between []) tokens ≡ Some f
file_parsed {most} (AFile {front = front} {middle = middle} {back = back} {decls = decls} {procedures = procedures}
    {body = body} shown d p w) =
    heads most d [] (middle ++ back)
    ∙ (file_starts most decls (middle ++ back)
    (procedures_no_label p back (subst NoLabel (append-nil back) (writes_no_label w [] tt)))
    ∙ (procedures_parsed most p decls [] back
    ∙ (ap (λ z. parsed most (Doing (Outside decls procedures) (Among [] [] Ready)) z) (sym (append-nil back))
    ∙ (body_read w (Outside decls procedures) refl [] tt
    ∙ ap (λ z. Some (record { decls = decls; procedures = procedures; body = z })) (block_again body)))))

-- where no name is hidden, each token is taken as it is
pub shown_kind : (b : Bool) (t : Advance ParserState) → b ≡ false → (if b then Wrong else t) ≡ t
shown_kind true t e = absurd (cc)
shown_kind false t e = refl

kind_shown : (k : Kind) (ks : List Kind) → HasNoHiddenName (k ∷ ks) → is_hidden_token k ≡ false
kind_shown (kind.Word name) ks s = s.0
kind_shown _ ks s = refl

pub rest_shown : (k : Kind) (ks : List Kind) → HasNoHiddenName (k ∷ ks) → HasNoHiddenName ks
rest_shown (kind.Word name) ks s = s.1
rest_shown _ ks s = s

all_taken : (most : Limits) (ks : List Kind) (t : Advance ParserState)
    → ((next : ParserState) → tokenwise.parsed taken program_of most next ks ≡ parsed most next ks)
    → after_advance t (λ next. tokenwise.parsed taken program_of most next ks)
    ≡ after_advance t (λ next. parsed most next ks)
all_taken most ks (Goes next) rest = rest next
all_taken most ks _ rest = refl

taken_all : (most : Limits) (tokens : List Kind) (state : ParserState) → HasNoHiddenName tokens
    → tokenwise.parsed taken program_of most state tokens ≡ parsed most state tokens
taken_all most [] state s = refl
taken_all most (k ∷ ks) state s =
    ap (λ t. after_advance t (λ next. tokenwise.parsed taken program_of most next ks))
    (shown_kind (is_hidden_token k) (advanced most state k) (kind_shown k ks s))
    ∙ all_taken most ks (advanced most state k) (λ next. taken_all most ks next (rest_shown k ks s))

file_shown : {most : Limits} {tokens : List Kind} {f : File} → SpellsFile most tokens f → HasNoHiddenName tokens
file_shown (AFile shown d p w) = shown

-- a file's tokens lead to the file
pub file_read : {most : Limits} {tokens : List Kind} {f : File} → SpellsFile most tokens f
    → tokenwise.parsed taken program_of most (Between []) tokens ≡ Some f
file_read {most} {tokens} s = taken_all most tokens (Between []) (file_shown s) ∙ file_parsed s
