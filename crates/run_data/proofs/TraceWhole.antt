-- What the reader of traces knows once it has split a text and read its events.
use Rattle.std.proofs.Common.{◌≡◌, ℕ, ◌+◌, ◌-◌, ◌<◌, ◌≤◌, Bool, false, eqb, List, [], ◌∷◌, ◌++◌, get_or, length, map, take, Bor, sym, ap, ◌∙◌, subst, arith}
use Rattle.std.specs.List.{slice_split, take-map}
use Rattle.std.proofs.lemmas.List.{length-map, map-append, take_more, get_or-map}
use Rattle.std.proofs.lemmas.List.Splits.{length-slice_split}
use Rattle.lt_isa.specs.Prelude.{Stamped}
use Rattle.run_data.specs.declared.trace_files.TraceFile.{TraceFile}
use Rattle.run_data.specs.declared.trace_files.TraceLine.{TraceLine}
use Rattle.run_data.specs.Prelude.{line_of, front_parts, LineFits, file_events, stamped_in, observed_in, contents, is_halt, AreRead, RunStops, break_of}
use Rattle.run_data.proofs.TraceSteps.{AreRead-more}

pub record Reading (size : ℕ) (text : List ℕ) (parts : List (List ℕ)) (events : List Stamped)
    (halts : Bool) : Type 0 where
  pub split : slice_split (λ byte. eqb byte 10) text ≡ parts
  pub some : 1 ≤ length parts
  pub run : RunStops size (front_parts parts) events halts

-- a text has a part
pub parts_some : (text : List ℕ) (parts : List (Bor (List ℕ)))
    → contents parts ≡ slice_split (λ byte. eqb byte 10) text → 1 ≤ length parts
parts_some text parts is =
    omega (arith, length-slice_split (λ byte. eqb byte 10) text, ap length is, length-map parts (λ part. part.now))

front-contents : (parts : List (Bor (List ℕ))) (n : ℕ)
    → n ≡ length parts → contents (take (n - 1) parts) ≡ front_parts (contents parts)
front-contents parts n is =
    sym (take-map (λ part. part.now) (n - 1) parts)
    ∙ ap (λ k. take (k - 1) (contents parts)) (is ∙ sym (length-map parts (λ part. part.now)))

-- lines that are read to the end of the text
pub reading : (size : ℕ) (text : List ℕ) (items parts : List (Bor (List ℕ))) (n : ℕ) (file : TraceFile)
    → contents items ≡ slice_split (λ byte. eqb byte 10) text → parts ≡ items → n ≡ length parts
    → RunStops size (contents (take (n - 1) parts)) (file_events file) file.halted
    → Reading size text (contents items) (file_events file) file.halted
reading size text items parts n file split same count run = record {
  split = sym split;
  some = omega (arith, parts_some text items split, length-map items (λ part. part.now));
  run = subst (λ lines. RunStops size lines (file_events file) file.halted)
      (front-contents parts n count ∙ ap (λ p. front_parts (contents p)) same) run;
}

-- where the text breaks, by its parts
pub break_is : (items parts : List (Bor (List ℕ))) (n : ℕ) (file : TraceFile)
    → parts ≡ items → n ≡ length file.lines.items
    → break_of (contents parts) n file.halted ≡ break_of (contents items) (length (file_events file)) file.halted
break_is items parts n file same count =
    ap (λ p. break_of (contents p) n file.halted) same
    ∙ ap (λ k. break_of (contents items) k file.halted) (count ∙ sym (length-map file.lines.items stamped_in))

-- one line more
pub read-more : (size : ℕ) (lines : List (Bor (List ℕ))) (i : ℕ) (d : Bor (List ℕ)) (items new : List TraceLine)
    (line : TraceLine) (least next : ℕ) (halts : Bool)
    → i < length lines → AreRead size (take i (contents lines)) (map stamped_in items) false least → least ≤ line.stamp
    → LineFits size (stamped_in line) → (get_or lines i d).now ≡ line_of line.stamp (observed_in line.event)
    → new ≡ items ++ line ∷ [] → halts ≡ is_halt (observed_in line.event) → next ≡ line.stamp
    → AreRead size (take (i + 1) (contents lines)) (map stamped_in new) halts (next + 1)
read-more size lines i d items new line least next halts within before high fits is new_is halts_is next_is =
    let inside : i < length (contents lines) = omega (arith, length-map lines (λ part. part.now)) in
    rw (
      take_more (contents lines) i [] inside,
      get_or-map (λ part. part.now) lines i d [] within,
      new_is,
      map-append,
      halts_is,
      next_is,
    )
    (AreRead-more size least (take i (contents lines)) (map stamped_in items) (get_or lines i d).now
    (stamped_in line) before high fits is)
