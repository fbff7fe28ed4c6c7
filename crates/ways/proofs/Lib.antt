pub mod Here
pub mod RuleOne
