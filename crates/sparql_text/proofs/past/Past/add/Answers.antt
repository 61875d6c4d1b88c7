-- Each part goes on by one token.
use Rattle.std.proofs.Common.{◌∙◌, ◌++◌, sym, ap, fold}
use Rattle.std.specs.Option.{option_map}
use Rattle.sparql_text.specs.declared.past.Form.TheVariants.{Unselected}
use Rattle.sparql_text.specs.Scope.{name_of, declarations_of}
use Rattle.sparql_text.specs.Machine.{kind_of}
use Rattle.sparql_text.specs.Naming.{with_name}
use Rattle.sparql_text.specs.Tallying.{counted, blank}
use Rattle.sparql_text.specs.Past.{declared_by, prefix_behind, is_prefix_kind, form_behind}
use Rattle.sparql_text.proofs.NamesGrowing.{names_grow}
use Rattle.sparql_text.proofs.PastGrowing.{declared_more, pending_more, ends_more, form_more, tally_more}
use Rattle.sparql_text.proofs.past.Past.add.Goals as goal

pub returns : goal.returns
returns c tokens token p s =
    let kind = c.kind_of-kind.ensures token s in record {
      names = c.in_ok-add_variable.ensures token s ∙ (ap (λ names. fold with_name names (name_of token)) p.names ∙ sym (names_grow tokens token));
      declared = c.in_ok-add_declaration.ensures token s ∙ (ap (λ d. d ++ declared_by (option_map (λ prefix. prefix.now) c.args.self.now.pending) token) p.declared
          ∙ (ap (λ pending. declarations_of tokens ++ declared_by pending token) p.pending ∙ sym (declared_more tokens token)));
      tally = c.count_token-self.ensures ∙ (ap (counted c.args.self.now.tally) kind ∙ (ap (λ t. counted t (kind_of token)) p.tally ∙ sym (tally_more blank tokens token)));
      behind_prefix = c.is_prefix_kind-self.ensures ∙ (ap is_prefix_kind kind ∙ sym (ends_more tokens token));
      pending = c.prefix_behind-self.ensures token s ∙ (ap (λ b. prefix_behind b token) p.behind_prefix ∙ sym (pending_more tokens token));
      form = c.behind-self.ensures ∙ (ap (form_behind c.args.self.now.form) kind ∙ (ap (λ f. form_behind f (kind_of token)) p.form ∙ sym (form_more Unselected tokens token)));
    }
