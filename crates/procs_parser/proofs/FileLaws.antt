-- The laws of single tokens, and of the states that tokens lead to, by which a file is read token by token.
use Rattle.std.proofs.Common.{◌≡◌, ◌<◌, false, List, [], ◌∷◌, ◌++◌, Option, Some, refl, sym, subst, append_assoc}
use Rattle.std.proofs.lemmas.List.{append-nil}
use Rattle.src_lexer.specs.declared.tokens.Kind.{Kind}
use Rattle.src_lexer.specs.declared.tokens.Token.{Token}
use Rattle.src_parser.specs.Prelude.{Limits, complete_of, ReadsTo, Goes, Completes}
use Rattle.src_parser.specs.Readers.{Stops}
use Rattle.src_parser.specs.declared.errors.ParseFault.{ParseFault}
use Rattle.src_parser.proofs.Spelled.{Spelled}
use Rattle.src_parser.proofs.StatementsStanding.{complete_spelled}
use Rattle.src_parser.proofs.SeveralTokens.{stray_after, deeper_after}
use Rattle.src_parser.proofs.Tokenwise.{Laws}
use Rattle.procs_tree.specs.Prelude.{Statement, File, Nothing, block_of}
use Rattle.procs_parser.specs.Prelude.{HasNoHiddenName, SpellsFile, AFile, Ends, NoProcedure, ExplainsFile, ParserState, Between, Front, front_depth, with_calls, file_at, taken, is_hidden_token, program_of, open_braces}
use Rattle.procs_parser.proofs.BlocksSpelled.{spelled_block}
use Rattle.procs_parser.proofs.BracesOfFiles.{shown, counted}
use Rattle.procs_parser.proofs.CallTokens.{IsCall}
use Rattle.procs_parser.proofs.CompletingFiles.{standing_completes, shown_both}
use Rattle.procs_parser.proofs.ReadFiles.{file_read}
use Rattle.procs_parser.proofs.RoomsOfFiles.{shape}
use Rattle.procs_parser.proofs.StandingFiles.{Sentence, Program, Begun, AtTop, Standing, InBetween, InHeading, InHead, InStatements, InArguments}
use Rattle.procs_parser.proofs.StepsOfFiles.{steps, nothing_read}
use Rattle.src_lexer.specs.declared.tokens.Kind.TheVariants as kind
use Rattle.src_parser.specs.declared.errors.ParseFault.TheVariants as error

-- tokens that were taken lead to a state, and none of them is hidden
pub record WasTaken (most : Limits) (last : ParserState) (tokens : List Kind) : Type 0 where
  pub standing : Standing most last tokens
  pub shown : HasNoHiddenName tokens

one_shown : (k : Kind) → is_hidden_token k ≡ false → HasNoHiddenName (k ∷ [])
one_shown (kind.Word name) e = (e, tt)
one_shown _ e = tt

taken_step : (most : Limits) (state : ParserState) (tokens : List Kind) → WasTaken most state tokens
    → (k : Kind) (next : ParserState) → taken most state k ≡ Goes next → WasTaken most next (tokens ++ k ∷ [])
taken_step most state tokens w k next e =
    let s = shown (is_hidden_token k) _ next e in
    record {
      standing = steps w.standing k next s.1;
      shown = shown_both tokens (k ∷ []) w.shown (one_shown k s.0);
    }

-- a file by the grammar, where no name is hidden
shown_file : {most : Limits} {tokens : List Kind} {f : File} → Sentence most tokens f → HasNoHiddenName tokens
    → SpellsFile most tokens f
shown_file {most} (Program {first = first} {middle = middle} {back = back} {decls = decls} {procedures = procedures}
    {body = body} d p w) s =
    subst (λ z. SpellsFile most z (record { decls = decls; procedures = procedures; body = body }))
    (sym (append_assoc first middle back)) (AFile (subst HasNoHiddenName (append_assoc first middle back) s) d p w)

completes : (most : Limits) (last : ParserState) (tokens : List Kind) → WasTaken most last tokens
    → open_braces last < most.braces → Completes SpellsFile most tokens
completes most last tokens w room =
    let c = standing_completes w.standing room in
    record {
      more = c.more;
      tree = c.tree;
      sentence = shown_file c.sentence (shown_both tokens c.more w.shown c.shown);
    }

sentence_at : {most : Limits} {f : File} (xs ys : List Kind) → xs ≡ ys → Sentence most xs f → Sentence most ys f
sentence_at {most} {f} xs ys e s = subst (λ z. Sentence most z f) e s

whole_statements : {most : Limits} {front : Front} {ts us : List Kind} → Begun most front ts
    → (o : Option (List Statement))
    → ((ss : List Statement) → o ≡ Some ss → Spelled with_calls (IsCall most) most (front_depth front) us ss)
    → (f : File) → file_at front o ≡ Some f → Sentence most (ts ++ us) f
whole_statements {most} {us = us} (AtTop {first = first} {middle = middle} {decls = decls} {procedures = procedures} d p)
    (Some ss) spelled f e =
    let g : ◌≡◌ {A = File} (record { decls = decls; procedures = procedures; body = block_of ss }) f = cc in
    subst (λ z. Sentence most ((first ++ middle) ++ us) z) g (Program d p (spelled_block (spelled ss refl)))
whole_statements _ _ spelled f e = absurd (cc)

-- a state in which a file is whole has read that file
whole : {most : Limits} {last : ParserState} {tokens : List Kind} → Standing most last tokens → (f : File)
    → program_of last ≡ Some f → Sentence most tokens f
whole {most} (InBetween {decls = decls} {first = first} d) f e =
    let g : ◌≡◌ {A = File} (record { decls = decls; procedures = []; body = Nothing }) f = cc in
    subst (λ z. Sentence most first z) g
    (sentence_at ((first ++ []) ++ []) first (simp append-nil refl) (Program d NoProcedure Ends))
whole (InHeading d h) f e = absurd (cc)
whole (InHead b n) f e = absurd (cc)
whole (InStatements {blocks = blocks} b s) f e =
    whole_statements b (complete_of with_calls blocks) (λ ss is. complete_spelled s ss is) f e
whole (InArguments name b o c) f e = absurd (cc)

pub file_laws : Laws taken program_of open_braces (Between []) SpellsFile WasTaken
file_laws = record {
  shape = shape;
  counted = counted;
  starts = refl;
  nothing_read = λ most. record { standing = nothing_read; shown = tt };
  steps = taken_step;
  completes = completes;
  finished = λ most last tokens w f e. shown_file (whole w.standing f e) w.shown;
  read = λ most tokens f s. file_read s;
}

-- tokens have at most one tree
pub one_file : (most : Limits) (tokens : List Kind) (f g : File) → SpellsFile most tokens f
    → SpellsFile most tokens g → f ≡ g
one_file most tokens f g s t = let a = file_read s in let b = file_read t in cc

-- why tokens aren't all read, as an error of all tokens, for any tokens after them
pub stops_explained : (before tokens after : List Token) (state : ParserState) (e : ParseFault)
    → ReadsTo taken (Between []) before state → Stops taken state tokens e
    → ExplainsFile e ((before ++ tokens) ++ after)
stops_explained before tokens after state (error.Unexpected at) read s =
    stray_after file_laws before tokens after state at read s
stops_explained before tokens after state (error.TooDeep at) read s =
    deeper_after file_laws before tokens after state at read s
stops_explained before tokens after state error.EndOfText read s = absurd s
