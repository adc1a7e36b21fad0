use Rattle.rsml_syntax.specs.text.Lexing.{bare}
use Rattle.rsml_parser.proofs.AnswerLemmas.{answers_ok, answers_only, answers_syntax, answers_syntax_only, answers_deep, answers_deep_only}
use Rattle.rsml_parser.proofs.specification.parse.Goals as goal

pub returns-clause-ok : goal.returns-clause-ok
returns-clause-ok c = answers_ok (bare c.args.tokens.now) c.requires.fit c.read_tokens.result c.read_tokens.ensures

pub returns-clause-only : goal.returns-clause-only
returns-clause-only c = answers_only (bare c.args.tokens.now) c.requires.fit c.read_tokens.result c.read_tokens.ensures

pub returns-clause-syntax : goal.returns-clause-syntax
returns-clause-syntax c = answers_syntax (bare c.args.tokens.now) c.requires.fit c.read_tokens.result c.read_tokens.ensures

pub returns-clause-syntax_only : goal.returns-clause-syntax_only
returns-clause-syntax_only c = answers_syntax_only (bare c.args.tokens.now) c.requires.fit c.read_tokens.result c.read_tokens.ensures

pub returns-clause-deep : goal.returns-clause-deep
returns-clause-deep c = answers_deep (bare c.args.tokens.now) c.requires.fit c.read_tokens.result c.read_tokens.ensures

pub returns-clause-deep_only : goal.returns-clause-deep_only
returns-clause-deep_only c = answers_deep_only (bare c.args.tokens.now) c.requires.fit c.read_tokens.result c.read_tokens.ensures
