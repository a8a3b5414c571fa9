pub mod AttributeLemmas
pub mod AttributeTexts
pub mod Grammar
pub mod LineLaws
pub mod NameSets
pub mod ScanLemmas
