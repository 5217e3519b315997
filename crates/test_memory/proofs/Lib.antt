mod ExampleLaws
