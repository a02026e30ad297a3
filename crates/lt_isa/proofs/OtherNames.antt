-- That none of some symbols has a name, as a test and as a fact.
use Rattle.std.proofs.Common.{◌≡◌, ◌≢◌, ℕ, true, not, List}
use Rattle.std.specs.Prelude.{All, bytes_eq}
use Rattle.std.specs.List.{list_all}
use Rattle.gr_base.proofs.ListTests.{All-from_test, test-from_All, differ-from_test, test-from_differ}
use Rattle.lt_isa.specs.declared.symbols.Symbol.{Symbol}

-- each passes the test, so each has another name
pub others : (before : List Symbol) (text : List ℕ)
    → list_all (λ s. not (bytes_eq s.name text)) before ≡ true → All (λ s. s.name ≢ text) before
others before text =
    All-from_test (λ s. s.name ≢ text) (λ s. not (bytes_eq s.name text)) (λ s. differ-from_test s.name text) before

-- each has another name, so each passes the test
pub pass_others : (before : List Symbol) (text : List ℕ)
    → All (λ s. s.name ≢ text) before → list_all (λ s. not (bytes_eq s.name text)) before ≡ true
pass_others before text =
    test-from_All (λ s. s.name ≢ text) (λ s. not (bytes_eq s.name text)) (λ s. test-from_differ s.name text) before
