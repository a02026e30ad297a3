-- What `sample` compiles and runs: the source text of a program that counts how often each remainder by 16 occurs among
-- N numbers, and its input. (The histogram of GhostRider, ASPLOS 2015. The text is this project's profile. So are the
-- numbers, a linear congruential sequence with the constants of the example of `rand` in ISO C.)
use Rattle.std.specs.Prelude.{Bool, false, ℕ, suc, zero, ◌+◌, ◌*◌, ◌%◌, ◌^◌, ℤ, pos, ◌+ℤ◌, if◌then◌else◌, List, ◌++◌, map, replicate, fold, codes, decimal, bytes_eq, Option, Some, None}
use Rattle.std.specs.List.{range_with_len}
use Rattle.gr_word.specs.declared.variables.Want.{Want}
use Rattle.lt_isa.specs.declared.profiles.Profile.{Profile}
use Rattle.call_steps.specs.declared.targets.Target.{Target}
use Rattle.lt_isa.specs.Object.{Parts, usual_profile}
use Rattle.lt_isa.specs.Start.{trace, wants_of}
use Rattle.lt_isa.specs.Trace.{Stamped}
use Rattle.src_tree.specs.Meaning.{Store, meaning, variable_number, words_of_number}
use Rattle.src_tree.specs.Trees.{Source}
use Rattle.flow_types.specs.Wants.{declared_wants}
use Rattle.call_steps.specs.Compiled.{IsCompiledTo}
use Rattle.call_steps.specs.Counting.{is_plain, is_encrypted, is_second, how_many}
use Rattle.call_steps.specs.Objects.{SpellsObject}
use Rattle.call_steps.specs.Sources.{SpellsTyped}
use Rattle.call_replies.specs.declared.replies.Figures.{Figures}

-- the program for n numbers
unfoldable pub sample_text : ℕ → List ℕ
sample_text n =
    codes "public int i;\nsecret int a[" ++ (decimal n
    ++ (codes "];\nsecret int c[16];\nsecret int t;\ni = 0;\nwhile (i < " ++ (decimal n
    ++ codes ") { t = a[i] % 16; c[t] = c[t] + 1; i = i + 1; }\n")))

-- blocks of 2^9 words
abbrev pub sample_profile : Profile
sample_profile = usual_profile 9

abbrev pub sample_target : Bool → Target
sample_target fast = record { profile = sample_profile; fast = fast }

-- the numbers: x(0) is 1, and each makes the next
abbrev pub next_number : ℕ → ℕ
next_number x = (x * 1103515245 + 12345) % 2 ^ 31

unfoldable pub histogram_number : ℕ → ℕ
histogram_number zero = 1
histogram_number (suc k) = next_number (histogram_number k)

-- the first n of these numbers, from x(1) on
abbrev pub histogram_numbers : ℕ → List ℤ
histogram_numbers n = map (λ k. pos (histogram_number (suc k))) (range_with_len 0 n)

-- The input: the variable that is named a has as many of the numbers as it has words, and every other has zeros.
abbrev pub sample_words : Want → List ℤ
sample_words want = if bytes_eq want.name (codes "a") then histogram_numbers want.length
    else replicate want.length (pos 0)

abbrev pub sample_inputs : List Want → List (List ℤ)
sample_inputs wants = map sample_words wants

-- the same for the variables of a program, in the order of declaration
abbrev pub sample_store : Source → Store
sample_store p = sample_inputs (declared_wants p.decls)

-- the most cycles of the run
abbrev pub sample_cycles : ℕ
sample_cycles = 4294967295

-- what the run of an object on the input shows
abbrev pub sample_trace : Parts → List Stamped
sample_trace o = trace o (sample_inputs (wants_of o)) sample_cycles

-- The parts of a sample of n numbers: the program that the text parses as, the bytes of its object file, and the object
-- that they encode.
pub record Made : Type 0 where
  pub program : Source
  pub bytes : List ℕ
  pub object : Parts

pub record IsMade (fast : Bool) (n : ℕ) (made : Made) : Type 0 where
  pub spells : SpellsTyped false (sample_text n) made.program
  pub compiled : IsCompiledTo made.program (sample_target fast) made.bytes
  pub object : SpellsObject made.bytes made.object

-- the sum of some words
abbrev pub sum_of : List ℤ → ℤ
sum_of words = fold ◌+ℤ◌ (pos 0) words

-- the sum of the counts in what a program leaves, which is something where a run of its object halts
-- Rule: sample/sum.
abbrev pub sum_left : Source → Option Store → ℤ
sum_left p (Some left) = sum_of (words_of_number left (variable_number p.decls (codes "c")))
sum_left p None = pos 0

-- what is printed about the run: the number of accesses to each memory before it halts at a cycle, and the sum of the
-- counts that the program means
-- Rules: sample/items, sample/cycles.
abbrev pub figures_of : ℕ → Made → ℕ → Figures
figures_of n made at = record {
  items = n;
  cycles = at;
  ram = how_many is_plain (sample_trace made.object);
  eram = how_many is_encrypted (sample_trace made.object);
  oram2 = how_many is_second (sample_trace made.object);
  sum = sum_left made.program (meaning made.program (sample_store made.program) sample_cycles);
}
