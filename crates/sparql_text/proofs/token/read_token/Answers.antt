-- Each kind is the token where it stands, and a word where no other kind does.
use Rattle.std.proofs.Common.{refl}
use Rattle.sparql_text.specs.Tokens.{Iri, Name, Variable, String, Fixed}
use Rattle.sparql_text.proofs.TokenBegins.{iri_begins, variable_begins, string_begins, name_begins, word_begins, no_token}
use Rattle.sparql_text.proofs.token.read_token.Goals as goal

pub returns-in-Some-clause-found : goal.returns-in-Some-clause-found
returns-in-Some-clause-found c = (Iri c.in-Some.iri.now, refl, iri_begins c.args.bytes.now c.in-Some.iri.now c.in-Some.rest.now c.in-Some.ensures.found)

pub returns-in-Some-read_variable-clause-found : goal.returns-in-Some-read_variable-clause-found
returns-in-Some-read_variable-clause-found c =
    let found = c.in-Some-read_variable in (
      Variable found.name.now,
      refl,
      variable_begins c.args.bytes.now found.name.now found.rest.now found.ensures.found found.ensures.longest,
    )

pub returns-in-Some-read_string-clause-found : goal.returns-in-Some-read_string-clause-found
returns-in-Some-read_string-clause-found c =
    let found = c.in-Some-read_string in
    let read = found.ensures.found in
    (String read.0, (read.0, read.1, refl), string_begins c.args.bytes.now read.0 found.rest.now read.2)

pub returns-in-Some-read_name-clause-found : goal.returns-in-Some-read_name-clause-found
returns-in-Some-read_name-clause-found c =
    let found = c.in-Some-read_name in (
      Name found.prefix.now found.local.now,
      refl,
      name_begins c.args.bytes.now found.prefix.now found.local.now found.rest.now found.ensures.found found.ensures.longest,
    )

pub returns-in_err-word-clause-none : goal.returns-in_err-word-clause-none
returns-in_err-word-clause-none c =
    rw c.from_residual.ensures
    (no_token c.args.bytes.now c.in_default.ensures.none c.in_default-read_name.ensures.none c.in_default-read_variable.ensures.none
    c.in_default-read_string.ensures.none c.in_err-word.ensures.none)

pub returns-clause-found : goal.returns-clause-found
returns-clause-found c =
    let found = c.in_ok-word in (
      Fixed found.word,
      refl,
      word_begins c.args.bytes.now found.rest.now found.word found.ensures.found found.ensures.longest c.in_default.ensures.none
          c.in_default-read_name.ensures.none c.in_default-read_variable.ensures.none c.in_default-read_string.ensures.none,
    )
