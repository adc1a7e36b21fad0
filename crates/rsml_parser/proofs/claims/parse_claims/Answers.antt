use Rattle.rsml_syntax.specs.text.Lexing.{bare}
use Rattle.rsml_parser.proofs.ClaimAnswers.{answers_ok, answers_only, answers_syntax, answers_syntax_only}
use Rattle.rsml_parser.proofs.claims.parse_claims.Goals as goal

pub returns-clause-ok : goal.returns-clause-ok
returns-clause-ok c = answers_ok (bare c.args.tokens.now) c.requires.fit c.read_claims.result c.read_claims.ensures

pub returns-clause-only : goal.returns-clause-only
returns-clause-only c = answers_only (bare c.args.tokens.now) c.requires.fit c.read_claims.result c.read_claims.ensures

pub returns-clause-syntax : goal.returns-clause-syntax
returns-clause-syntax c = answers_syntax (bare c.args.tokens.now) c.requires.fit c.read_claims.result c.read_claims.ensures

pub returns-clause-syntax_only : goal.returns-clause-syntax_only
returns-clause-syntax_only c = answers_syntax_only (bare c.args.tokens.now) c.requires.fit c.read_claims.result c.read_claims.ensures
