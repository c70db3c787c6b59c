pub mod CallCountLaws
