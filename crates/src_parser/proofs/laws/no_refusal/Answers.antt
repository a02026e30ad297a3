use Rattle.src_parser.specs.Prelude.{limits}
use Rattle.src_parser.proofs.Places.{next_begins}
use Rattle.src_parser.proofs.laws.no_refusal.Goals as goal

pub returns : goal.returns
returns c = record {
  unexpected = λ tokens p at s u. u.none limits (next_begins tokens u.before u.after u.token p u.split s);
  too_deep = λ tokens p at s u. u.none (next_begins tokens u.before u.after u.token p u.split s);
  cut_short = λ tokens p s u. u.none p s;
}
