pub mod FewLaws
