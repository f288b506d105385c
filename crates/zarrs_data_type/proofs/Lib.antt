pub mod MakingLaws
pub mod SameTypeLaws
pub mod TypeLaws
pub mod FillMetadataLaws
pub mod TextLaws
pub mod FillLaws
